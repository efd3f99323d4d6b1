pub mod Namespaces
pub mod Labels
pub mod Owners
