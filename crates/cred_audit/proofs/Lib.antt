pub mod Numbers
pub mod Prefixes
pub mod Runs
pub mod Reports
pub mod One
