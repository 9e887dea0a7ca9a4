pub mod Layout
pub mod Used
pub mod Rows
