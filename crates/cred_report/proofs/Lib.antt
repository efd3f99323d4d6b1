mod Digits
mod Decimal
mod Pieces
pub mod Journals
pub mod Hex
