pub mod Prefixes
pub mod Finished
pub mod Messages
pub mod Cuts
pub mod Runs
