-- Lists of task numbers, and how they lie in an array of 31; one list over another; when a contract determines the answer.
pub mod Lists
pub mod Line
pub mod Marks
pub mod Over
pub mod Once
