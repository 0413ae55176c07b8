pub mod LaidLaws
pub mod IndexLaws
pub mod ImageLaws
pub mod StepLaws
pub mod OpenLaws
pub mod SoundLaws
