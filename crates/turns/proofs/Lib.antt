pub mod WalkingLaws
pub mod BusyLaws
