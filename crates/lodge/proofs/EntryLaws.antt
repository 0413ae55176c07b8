-- The session with a message's lodgement entered.
use Prim.Native.Nat.{ℕ, suc, ◌+◌, ◌<◌}
use mathlib.Core.Path.{◌≡◌, refl}
use Rattle.std.specs.Prelude.{Some, None}
use Rattle.std.specs.Option.{unwrap_or}
use Rattle.std.specs.declared.option.Option.{Option}
use native.Mathlib.Omega.{arith}
use Rattle.rules.specs.DayBook as D
use Rattle.message.specs.View.{fields_in}
use Rattle.message.specs.declared.Fields.{Fields}
use Rattle.session_changes.specs.Changes.{standing_with}
use Rattle.answer.specs.Told.{told, is_refusal, numbered}
use Rattle.session.specs.declared.Session.{Session}
use Rattle.session_changes.specs.Effects.{done}
use Rattle.session_changes.specs.declared.Step.{Step}
use Rattle.session_changes.specs.declared.StandingChange.{StandingChange}
use Rattle.session.proofs.ImageLaws.{last_as}
use Rattle.lodge_keys.specs.Keys.{key_for, key_index, left_of, from_at}
use Rattle.lodge_keys.proofs.TakenLaws.{entered-image}
use Rattle.lodge_judge.specs.Judging.{Room}
use Rattle.lodge.specs.Entries.{EnteredFields}

-- a message's lodgement enters under a number, after the m that are left; those after index p move forward
abbrev pub entering : Fields → ℕ → ℕ → ℕ → Step StandingChange
entering f p m number = record {
  change = record {
    from = p;
    to = m;
    at = m;
    lodgement = record { key = key_for f; number = number };
    energies = record { energies = f.energies; prices = f.prices };
    standing = m + 1;
    last = number;
  };
  answer = numbered number;
}

module _ (s : Session) (f : Fields) (o : Option ℕ) (at : o ≡ key_index s (key_for f)) (r : Room s (key_for f)) where
  abbrev left : ℕ
  left = left_of s.standing o

  -- the index after those left is free
  room-left : left < 128
  room-left = rw at r.index

  pub entered : EnteredFields s f (done standing_with s (entering f (from_at s.standing o) left (s.last + 1)))
  unfolding told is_refusal D.entry
  entered = record {
    book = λ b sound h e.
        let n : s.last + 1 ≡ suc b.last = omega (arith, last_as s b e) in
        record {
          answer = rw n;
          session = rw n (entered-image s (key_for f) o left at refl room-left b sound h e (D.entry (fields_in f) (suc b.last)) (suc b.last));
        };
    fine = refl;
  }

-- where the search found nothing, the library's default
pub from-default : (o : Option ℕ) (n : ℕ) → unwrap_or o n ≡ from_at n o
from-default None n = refl
from-default (Some p) n = refl
