pub mod EntryLaws
pub mod LodgeLaws
