pub mod WovenLaws
