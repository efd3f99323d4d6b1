pub mod Points
pub mod Rows
pub mod Rule
pub mod Seen
