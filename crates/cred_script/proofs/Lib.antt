pub mod SmallLanes
pub mod FileMap
pub mod Fixed
