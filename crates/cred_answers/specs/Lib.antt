pub mod CallRows
pub mod Rows
