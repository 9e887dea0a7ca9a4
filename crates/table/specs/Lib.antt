pub mod Numbers
pub mod Moved
pub mod Best
pub mod Tree
