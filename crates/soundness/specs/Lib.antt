pub mod Marks
pub mod TreeCheck
pub mod Check
pub mod Rows
