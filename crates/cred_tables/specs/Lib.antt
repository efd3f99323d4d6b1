pub mod Begin
pub mod Holds
pub mod Kept
pub mod Labelled
pub mod Out
pub mod Prepared
