pub mod Class
pub mod Seen
