pub mod HalvingLaws
pub mod VerdictLaws
