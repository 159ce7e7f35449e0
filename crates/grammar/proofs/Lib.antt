pub mod PlacingLaws
pub mod ListsLaws
pub mod PlacesLaws
pub mod RunningLaws
pub mod WalkLaws
pub mod VerdictLaws
pub mod PairLaws
