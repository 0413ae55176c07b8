-- The slots of a session's units.
use Rattle.std.specs.Prelude.{ℕ, ◌+◌, ◌<◌, ◌≡◌, List, get_or, take}
use Rattle.rules.specs.Book.{Book}
use Rattle.session.specs.declared.Session.{Session}
use Rattle.session.specs.Image.{Sound, image, no_lodgement}
use Rattle.session.specs.Parts.{number_is, index_of}
use Rattle.hour_offers.specs.declared.Holder.{Holder}
use Rattle.clear_gather.specs.Built.{Holders, no_holder}
use Rattle.clear_store.specs.UnitSlots.{slot_of}

-- Of a session that stands for a sound book: the slot of a standing lodgement's holder is above the index of the lodgement's unit.
abbrev pub Slotted : Session → (rows slots : List ℕ) → Type 0
Slotted s rows slots =
    (b : Book) → Sound b → s ≡ image b → (hs : List Holder) → Holders s hs → (i : ℕ) → i < s.standing
    → slot_of rows slots (get_or hs i no_holder).unit ≡ index_of (number_is (get_or s.lodgements i no_lodgement).key.unit) (take s.enrolled s.units) + 1
