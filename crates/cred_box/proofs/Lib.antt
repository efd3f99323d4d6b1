pub mod Bounds
pub mod IdCalls
pub mod Adjusts
pub mod Execves
