pub mod Targets
pub mod F01
pub mod Referring
pub mod ReferringLaws
pub mod F01Laws
