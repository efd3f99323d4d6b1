pub mod Lanes
pub mod Lines
pub mod Acting
pub mod Files
pub mod Kept
pub mod Sound
