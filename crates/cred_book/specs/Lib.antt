pub mod Book
pub mod Counts
pub mod Cursor
pub mod Parts
pub mod Works
