pub mod Directions
pub mod Flows
pub mod Limits
