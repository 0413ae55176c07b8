pub mod Changes
pub mod Effects
