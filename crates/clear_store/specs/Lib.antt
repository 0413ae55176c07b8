pub mod Shown
pub mod Slots
pub mod UnitSlots
