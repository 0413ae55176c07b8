pub mod RowLaws
pub mod EnergyLaws
