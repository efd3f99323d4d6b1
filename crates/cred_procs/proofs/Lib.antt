pub mod Entries
pub mod Changes
pub mod Writes
pub mod Ends
pub mod Many
pub mod Places
