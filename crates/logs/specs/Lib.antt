-- A log on its way from standard input to standard output; many logs, one behind the other.
pub mod Logs
pub mod Rests
