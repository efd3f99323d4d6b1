pub mod Kept
pub mod Labels
pub mod Slots
pub mod Room
pub mod Written
pub mod Machine
