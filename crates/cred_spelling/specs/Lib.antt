pub mod Lines
pub mod Words
pub mod Table
pub mod Spellings
pub mod Names
pub mod Read
pub mod LineWords
