pub mod Table
pub mod Flags
pub mod Rows
