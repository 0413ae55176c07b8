-- The lodgements that one is judged with.
use Rattle.std.specs.Prelude.{ℕ, ◌≡◌, Bool, cond, not, ◌&&◌, List, [], map, eqb, take}
use Rattle.std.specs.Bool.{beq}
use Rattle.std.specs.List.{list_any}
use Rattle.rules.specs.Lists.{from}
use Rattle.session.specs.declared.Key.{Key}
use Rattle.session.specs.declared.Lodgement.{Lodgement}
use Rattle.session.specs.declared.Session.{Session}
use Rattle.message.specs.declared.Fields.{Fields}
use Rattle.lodge_keys.specs.Keys.{hiding, key_for}
use Rattle.judge_loads.specs.Loads.{marked}

-- a lodgement of the key's unit, of the other kind, that none of the list hides
unfoldable pub counts : List Lodgement → Key → Lodgement → Bool
counts ls k l = eqb l.key.unit k.unit && (not (beq l.key.execution k.execution) && not (list_any (hiding l.key) ls))

-- a mark at the index of each that is counted; beside a default lodgement none is
unfoldable pub beside_marks : List Lodgement → Key → List Bool
beside_marks ls k = cond k.default [] (map (counts ls k) ls)

-- those for a message
abbrev pub marks_for : Session → Fields → List Bool
marks_for s m = beside_marks (take s.standing s.lodgements) (key_for m)

-- the indices of those of the first n that are marked
abbrev pub CountedOf : List Bool → ℕ → List ℕ → Type 0
CountedOf marks n indices = indices ≡ marked marks (from 0 n)
