pub mod Positionals
pub mod Line
