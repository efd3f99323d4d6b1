pub mod Kept
pub mod Joined
pub mod Falling
pub mod Left
pub mod Conditions
