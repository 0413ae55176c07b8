pub mod Beside
pub mod Steps
pub mod Rounds
