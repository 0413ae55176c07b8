pub mod View
pub mod Sound
