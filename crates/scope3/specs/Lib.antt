pub mod Scope3
pub mod Whole
pub mod Scope3Laws
