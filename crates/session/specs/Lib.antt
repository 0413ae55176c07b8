pub mod Laid
pub mod Image
pub mod Steps
pub mod Parts
pub mod Bare
