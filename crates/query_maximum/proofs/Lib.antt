pub mod DirectionLaws
pub mod MaximumLaws
pub mod ShownLaws
