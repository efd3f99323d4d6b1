pub mod Lists
pub mod Points
pub mod Seen
pub mod Size
pub mod Words
