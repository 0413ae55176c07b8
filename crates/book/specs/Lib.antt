pub mod Runs
pub mod Replays
pub mod Demand3
