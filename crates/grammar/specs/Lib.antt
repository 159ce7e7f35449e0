-- the definitions, in reading order
pub mod Lists
pub mod Grams
pub mod Segments
pub mod Interchange
pub mod Loads
pub mod Elements
pub mod Rules
pub mod Valid
pub mod Placing
pub mod Places
pub mod Verdict
pub mod Counted
pub mod Named
pub mod Example
pub mod ExampleTree
-- a run over segments, as the proofs see it
pub mod Running
pub mod Going
-- a sum of signed grams, as the code keeps it
pub mod Weighed
-- what is proved
pub mod TestLaws
pub mod SnocLaws
pub mod RuleLaws
pub mod StartLaws
pub mod WeighedLaws
