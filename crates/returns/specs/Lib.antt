pub mod Returns
pub mod Reading
pub mod ReadingLaws
pub mod Years
