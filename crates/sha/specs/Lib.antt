pub mod Sha
pub mod Feeding
pub mod Example
pub mod Loops
pub mod LoopsLaws
pub mod ShaLaws
pub mod FeedingLaws
