pub mod Pieces
pub mod TurnLaws
pub mod Unique
