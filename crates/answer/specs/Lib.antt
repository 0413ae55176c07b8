pub mod Told
pub mod Kinds
pub mod Refused
