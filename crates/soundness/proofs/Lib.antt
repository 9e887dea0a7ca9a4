mod MarkLaws
mod TaskLaws
mod Turns
mod LineLaws
mod TreeTurns
mod TreePass
mod TreeClimb
mod TreeFound
mod WholeLaws
mod RowLaws
pub mod Unique
