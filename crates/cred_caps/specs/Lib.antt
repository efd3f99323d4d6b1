pub mod Caps
pub mod Flags
pub mod Names
pub mod Numbers
pub mod Secure
pub mod Sets
