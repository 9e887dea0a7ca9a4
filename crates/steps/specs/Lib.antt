pub mod Lowest
pub mod Taken
pub mod Change
pub mod Engine
