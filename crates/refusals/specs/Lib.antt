pub mod Counting
pub mod OrdinalLaws
pub mod Refused
