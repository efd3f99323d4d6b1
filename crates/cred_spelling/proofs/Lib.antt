pub mod FirstLine
pub mod LineCount
pub mod Numerals
pub mod CapNames
pub mod Hexadecimals
pub mod FileNames
pub mod LineWords
