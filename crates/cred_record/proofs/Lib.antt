pub mod Blank
pub mod HalfWords
pub mod WordLemmas
