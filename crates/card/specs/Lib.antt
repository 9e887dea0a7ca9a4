pub mod Answers
pub mod Contacts
