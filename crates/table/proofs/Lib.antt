pub mod LeafLaws
pub mod PlaceLaws
pub mod Levels
pub mod Bits
pub mod HighestLaws
pub mod Unique
