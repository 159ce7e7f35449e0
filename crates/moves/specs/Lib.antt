-- the definitions
pub mod Stored
pub mod Example
-- what is proved
pub mod NumberLaws
pub mod GramsLaws
pub mod StoredLaws
pub mod MovingLaws
