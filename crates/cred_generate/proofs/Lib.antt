pub mod Accepted
pub mod Counted
pub mod Growth
pub mod Told
