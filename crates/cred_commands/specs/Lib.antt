pub mod Order
pub mod Summing
pub mod Sequences
pub mod Writing
