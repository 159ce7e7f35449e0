-- D2c: what is stated
pub mod Printed
-- and what is proved, by what a call was asked and what it gave
pub mod AskedLaws
pub mod GivenLaws
pub mod PrintedLaws
pub mod NumbersLaws
pub mod Ordinals
pub mod OrdinalsLaws
pub mod CheckedLaws
-- D2d: what is stated
pub mod Sealed
-- and what is proved, from lists and single segments up to the calls
pub mod SealedListLaws
pub mod SealedNumberLaws
pub mod SealedMessageLaws
pub mod SealedTreeLaws
pub mod SealedSymbolLaws
pub mod SealedWrittenLaws
pub mod SealedSegmentLaws
pub mod SealedValidLaws
pub mod SealedAcceptedLaws
pub mod SealedKeptLaws
pub mod SealedLaws
pub mod SealWritesLaws
pub mod Range
pub mod Read
pub mod Example
-- the clauses of the demands, by what is in an interchange and where
pub mod Stated
pub mod Sewn
pub mod Allowed
pub mod Valued
pub mod RefusedLaws
pub mod OnceLaws
pub mod AskedForLaws
pub mod PairedLaws
pub mod TiedLaws
pub mod PartedLaws
pub mod ReferringLaws
pub mod SewnLaws
pub mod AllowedLaws
pub mod ValuedLaws
pub mod Reported
pub mod ReportedLaws
pub mod Companion
pub mod CompanionLaws
-- the moves of a register
pub mod MovedLaws
-- a minus before an amount
pub mod ReversedLaws
pub mod Digested
pub mod DigestedLaws
