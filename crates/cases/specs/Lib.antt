-- The starred cases and the sample, and supervisors that they reject.
pub mod Cases
pub mod TreeCases
pub mod Rejects
