pub mod Generated
pub mod Sealed
pub mod Summary
