pub mod OrdersLaws
pub mod SignedLaws
