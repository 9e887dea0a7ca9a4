mod Shifts
mod Firsts
pub mod Growing
pub mod Unique
