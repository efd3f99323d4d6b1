pub mod RecordLaws
pub mod DataOf
pub mod Written
