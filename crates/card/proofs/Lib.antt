pub mod CardLaws
pub mod NoEncoding
pub mod ContactsLaws
pub mod Unique
