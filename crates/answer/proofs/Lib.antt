pub mod SignedLaws
pub mod ToldLaws
