pub mod Answer
pub mod Calls
pub mod Credential
pub mod File
pub mod WordLaws
pub mod Words
