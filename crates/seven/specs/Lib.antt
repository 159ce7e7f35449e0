-- the definitions
pub mod Groups
-- what is proved
pub mod TripLaws
pub mod ShortestLaws
pub mod SizeLaws
pub mod WriteLaws
pub mod ReadingLaws
