pub mod Ranges
pub mod Told
pub mod RangesLaws
