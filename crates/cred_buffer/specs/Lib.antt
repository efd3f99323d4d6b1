pub mod Sheet
pub mod Room
