pub mod Order
pub mod RunningLine
pub mod Ends
pub mod Pushed
pub mod Kept
pub mod Told
pub mod Summed
pub mod Writes
