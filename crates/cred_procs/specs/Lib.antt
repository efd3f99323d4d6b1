pub mod Tasks
pub mod Kept
