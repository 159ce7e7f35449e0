-- the definitions, in reading order
pub mod Listing
pub mod Laying
pub mod Example
-- what is proved
pub mod LayingLaws
pub mod ListingLaws
