pub mod Broadcasts
