pub mod DemandLaws
pub mod SizeLaws
