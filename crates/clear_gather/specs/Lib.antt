pub mod Built
pub mod Holding
