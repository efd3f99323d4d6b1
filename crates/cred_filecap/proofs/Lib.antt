pub mod AttributeLaws
pub mod AttributeOf
pub mod SetLemmas
pub mod WordLemmas
pub mod Written
