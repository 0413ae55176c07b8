pub mod ChangeLaws
pub mod StepLaws
