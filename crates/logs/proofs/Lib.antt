pub mod LogLaws
pub mod Room
pub mod Rules
