pub mod Refs
pub mod RefsLaws
