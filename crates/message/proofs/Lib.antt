pub mod FormLaws
pub mod HourLaws
pub mod JudgeLaws
pub mod OutcomeLaws
pub mod RoundTrips
