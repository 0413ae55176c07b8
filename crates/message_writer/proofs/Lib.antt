pub mod HourLaws
pub mod WriteLaws
