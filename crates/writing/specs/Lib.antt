-- the definitions, in reading order
pub mod Laid
pub mod Decimal
pub mod Written
-- what is proved
pub mod LaidLaws
pub mod DecimalLaws
pub mod WrittenLaws
