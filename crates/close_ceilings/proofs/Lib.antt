pub mod CeilingLaws
pub mod JudgedLaws
