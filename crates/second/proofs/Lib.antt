pub mod RowLaws
pub mod NextLaws
pub mod TopLaws
pub mod Unique
