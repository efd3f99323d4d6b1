pub mod Words
pub mod Counting
pub mod Sound
pub mod Live
pub mod Rows
pub mod Uses
pub mod Tables
