pub mod RegisterLaws
