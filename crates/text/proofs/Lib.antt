pub mod Puts
pub mod Decimals
pub mod Places
pub mod Unique
