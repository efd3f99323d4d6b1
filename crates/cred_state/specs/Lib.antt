pub mod Flags
pub mod TokensOut
pub mod Refusals
pub mod Replacements
