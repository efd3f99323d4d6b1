pub mod Creds
pub mod References
pub mod Tasks
pub mod Broadcasts
