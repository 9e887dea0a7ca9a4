-- A log on its way through the supervisor, with either engine.
pub mod Engines
pub mod Turn
