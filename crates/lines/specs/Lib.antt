-- the definitions, in reading order
pub mod Words
pub mod Seals
-- what is proved
pub mod WordsLaws
pub mod SealsLaws
