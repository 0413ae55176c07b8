pub mod Beside
pub mod Sums
pub mod Keys
pub mod Holding
