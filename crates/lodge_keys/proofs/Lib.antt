pub mod BesideLaws
pub mod SumLaws
pub mod KeyLaws
pub mod TakenLaws
