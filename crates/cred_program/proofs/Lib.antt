pub mod Once
pub mod Unread
