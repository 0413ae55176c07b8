pub mod PackLaws
pub mod SlotLaws
pub mod HeadLaws
pub mod PenLaws
