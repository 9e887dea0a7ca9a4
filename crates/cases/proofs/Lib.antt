pub mod AllHold
pub mod TreeHold
pub mod LargeAdvance
pub mod Rejected
