pub mod Texts
pub mod Ends
pub mod Cuts
pub mod Leaves
pub mod Scripts
pub mod Messages
pub mod Statuses
