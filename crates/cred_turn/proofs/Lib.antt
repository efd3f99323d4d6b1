pub mod Lists
pub mod Points
pub mod Seats
pub mod Steps
