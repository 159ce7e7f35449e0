pub mod Sealing
pub mod SealLaws
