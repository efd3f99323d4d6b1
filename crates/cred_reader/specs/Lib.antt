pub mod Fits
pub mod Kinds
pub mod Events
pub mod Answers
pub mod Entry
pub mod Once
