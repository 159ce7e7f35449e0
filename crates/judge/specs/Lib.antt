pub mod Told
pub mod ToldLaws
pub mod Totals
pub mod TotalsLaws
