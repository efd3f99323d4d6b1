pub mod SlotUse
pub mod Broadcasts
pub mod Flags
pub mod Sound
pub mod TaskCount
