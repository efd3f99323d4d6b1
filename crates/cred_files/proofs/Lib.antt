pub mod ByKey
pub mod Kept
