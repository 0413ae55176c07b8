pub mod TakingLaws
pub mod HourLaws
pub mod ReadLaws
