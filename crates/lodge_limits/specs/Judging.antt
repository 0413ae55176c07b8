-- A message that awaits its judgement by the limits, with the lodgements that are counted beside it.
use Rattle.std.specs.Prelude.{ℕ, Bool, true, false, List, eqb, get_or, take}
use Rattle.rules.specs.Lists.{lowest}
use Rattle.rules.specs.Lodging.{passed_at}
use Rattle.session.specs.Bare.{bare_notice}
use Rattle.session.specs.declared.Notice.{Notice}
use Rattle.session.specs.declared.Session.{Session}
use Rattle.std.proofs.Math.Option.{Option, some, none}
use Rattle.judge_loads.specs.Loads.{load_in, laid}
use Rattle.judge_limits.specs.Limits.{judged_in, first_passed}
use Rattle.judge_limits.specs.declared.Limit.{Limit}
use Rattle.lodge_keys.specs.Beside.{marks_for}
use Rattle.lodge_pending.specs.declared.Pending.{Pending}

-- a limit by hour is passed in no hour
unfoldable pub passed_nowhere : List ℕ → (ℕ → ℕ) → ℕ → List ℕ → Bool
passed_nowhere own load H limit = eqb (lowest (passed_at own load (laid limit)) H) 0

-- nothing refuses
abbrev pub is_clear : Option (ℕ × ℕ) → Bool
is_clear = elim [
  | none ↦ true
  | some r ↦ false
]

-- its load: its own energy, and that of those that are counted
abbrev pub load_for : Session → Pending → ℕ → ℕ
load_for s p = load_in p.fields.energies (marks_for s p.fields) (take s.standing s.energies)

-- the judgement by some limits
abbrev pub passed_for : Session → Pending → List Limit → Option (ℕ × ℕ)
passed_for s p limits = first_passed limits s.hours p.fields.energies (load_for s p)

-- that by the limits of its unit, with its notices
abbrev pub judged_with : Session → Pending → Notice → Notice → Option (ℕ × ℕ)
judged_with s p notice rights = judged_in p.holder.unit notice rights s.capacities s.losses p.fields.default s.hours p.fields.energies (load_for s p)

-- with those that the session keeps
abbrev pub judged_for : Session → Pending → Option (ℕ × ℕ)
judged_for s p = judged_with s p (get_or s.notices p.holder.at bare_notice) (get_or s.rights p.holder.at bare_notice)
