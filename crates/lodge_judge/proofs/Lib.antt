pub mod BeyondLaws
pub mod JudgeLaws
