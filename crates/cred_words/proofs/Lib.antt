pub mod Lists
pub mod Opens
pub mod Points
pub mod Seats
pub mod Steps
