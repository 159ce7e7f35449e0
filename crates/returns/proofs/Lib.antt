pub mod LoadsLaws
pub mod ReturnsLaws
pub mod YearsLaws
