-- A message's key, and what is looked for among the session's lodgements and units by a key.
use Rattle.std.specs.Prelude.{ℕ, ◌-◌, Bool, take, position}
use Rattle.std.specs.declared.option.Option.{Option}
use Rattle.std.specs.declared.option.Option.TheVariants.{Some, None}
use Rattle.rules.specs.Lodging.{same_key, hides}
use Rattle.message.specs.declared.Fields.{Fields}
use Rattle.session.specs.Image.{key_in}
use Rattle.session.specs.declared.Key.{Key}
use Rattle.session.specs.declared.Lodgement.{Lodgement}
use Rattle.session.specs.declared.Session.{Session}

-- the key of a message
abbrev pub key_for : Fields → Key
key_for m = record { execution = m.execution; default = m.default; reserved = 0; unit = m.unit; contract = m.contract }

-- a lodgement of a key
abbrev pub of_key : Key → Lodgement → Bool
of_key k l = same_key (key_in l.key) (key_in k)

-- one that hides those of a key
abbrev pub hiding : Key → Lodgement → Bool
hiding k l = hides (key_in l.key) (key_in k)

-- the index of the key's lodgement among those that stand
abbrev pub key_index : Session → Key → Option ℕ
key_index s k = position (of_key k) (take s.standing s.lodgements)

-- how many of n are left without the one that was found, if one was
abbrev pub left_of : ℕ → Option ℕ → ℕ
left_of n = elim [
  | None ↦ n
  | Some p ↦ n - 1
]

-- the index from which those after it move forward: none moves, if none was found
abbrev pub from_at : ℕ → Option ℕ → ℕ
from_at n = elim [
  | None ↦ n
  | Some p ↦ p
]
