pub mod CodecLaws
pub mod UsedLaws
pub mod Kept
pub mod Exact
pub mod RowsLaws
pub mod Unique
