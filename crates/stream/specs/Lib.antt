-- The window on the input, output that is gathered, the flow of both, and lines.
pub mod Windows
pub mod Outputs
pub mod Lines
