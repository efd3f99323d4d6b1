pub mod IdLists
pub mod ModeWords
pub mod Own
pub mod LanesOfLines
pub mod Steps
pub mod MoreNamespaces
pub mod FirstBadLine
