pub mod Held
pub mod FollowLaws
pub mod LookLaws
pub mod TurnLaws
