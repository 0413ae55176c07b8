pub mod Room
pub mod Passes
