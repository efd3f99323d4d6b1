pub mod Groups
pub mod Id
pub mod Ids4
pub mod Limits
pub mod Tests
pub mod Ordered
