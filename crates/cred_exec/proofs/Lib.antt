pub mod ExecLaws
pub mod Parts
pub mod Reading
pub mod Valid
