pub mod Parts
pub mod Auditing
pub mod Operands
pub mod Decoding
pub mod Encoding
pub mod Records
pub mod Laws
