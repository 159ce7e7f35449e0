pub mod Filters
pub mod FiltersLaws
pub mod Example
pub mod Values
pub mod ValuesLaws
