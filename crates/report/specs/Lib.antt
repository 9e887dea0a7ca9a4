-- The lines that stepper prints.
pub mod Lines
