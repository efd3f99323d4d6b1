pub mod One
pub mod Report
pub mod Next
pub mod Run
