pub mod Denied
