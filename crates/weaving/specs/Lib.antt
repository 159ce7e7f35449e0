pub mod Seals
pub mod Woven
pub mod ValueLaws
pub mod AllowedLaws
pub mod PiecesLaws
