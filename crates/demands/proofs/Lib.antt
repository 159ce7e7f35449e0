pub mod RangeLaws
pub mod ReadLaws
pub mod ReferredLaws
pub mod Scope3Laws
