pub mod Becomes
pub mod Laws
pub mod Parts
