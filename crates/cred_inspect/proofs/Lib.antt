pub mod Appended
pub mod Operands
pub mod Refused
pub mod ReportLine
pub mod Verdicts
pub mod OneLine
pub mod OneSpelling
