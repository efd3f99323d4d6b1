pub mod SetIdLaws
