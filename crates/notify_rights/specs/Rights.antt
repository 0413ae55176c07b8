-- What the code makes of a rights notice.
use Rattle.std.specs.Prelude.{ℕ, ◌+◌, Bool, List, drop, position}
use Rattle.std.specs.declared.option.Option.TheVariants.{Some, None}
use Rattle.rules.specs.Units.{french_of}
use Rattle.rules.specs.DayBook as D
use Rattle.session.specs.Laid.{counted}
use Rattle.session.specs.Image.{unit_in}
use Rattle.session.specs.declared.Unit.{Unit}
use Rattle.notify_rights.specs.declared.Rights.{Rights}

-- the call that a notice stands for
abbrev pub rights_in : Rights → D.Call
rights_in n = D.rights n.agent n.purchase (counted n.count n.energies)

-- a French unit of this agent and side
abbrev pub french_unit : ℕ → Bool → Unit → Bool
french_unit agent purchase u = french_of agent purchase (unit_in u)

-- the index of the first after `at` that passes a test, or `at`
abbrev pub next_index : {A : Type 0} → (A → Bool) → List A → ℕ → ℕ
next_index p l at = elim (position p (drop (at + 1) l)) [
  | Some next ↦ at + 1 + next
  | None ↦ at
]
