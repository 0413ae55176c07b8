pub mod FillLaws
pub mod ReadLaws
pub mod SlotLaws
