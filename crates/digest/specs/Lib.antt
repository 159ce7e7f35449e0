pub mod Digests
pub mod DigestsLaws
