-- Calls as lines of text: what a call's text is, and which call a line says.
pub mod CallText
pub mod Rows
pub mod Words
pub mod Says
pub mod Guess
