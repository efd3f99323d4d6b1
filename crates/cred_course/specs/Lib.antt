pub mod Range
pub mod Cursor
pub mod LaneCursors
pub mod Waiting
