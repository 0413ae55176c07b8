pub mod AbroadLaws
pub mod GivenLaws
