pub mod AbroadLaws
pub mod ChangeLaws
pub mod KeptLaws
