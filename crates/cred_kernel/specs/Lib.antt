pub mod Advances
pub mod Deciding
pub mod Locks
pub mod Turns
