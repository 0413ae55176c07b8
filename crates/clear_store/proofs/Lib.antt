mod SlotLaws
mod SumLaws
mod UnitSlotLaws
