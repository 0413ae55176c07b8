-- "Closing": the order in which lodgements are taken, and each one's verdict.
use Rattle.std.specs.Prelude.{ℕ, ◌+◌, Bool, not, ◌&&◌, List, [], ◌∷◌, map, reverse, eqb}
use Rattle.rules.specs.Lists.{keep, sum_of}
use Rattle.rules.specs.Refusals.{first_row}
use Rattle.rules.specs.Lodging.{Lodgement, energy_at, unhidden, limit_rows}
use Rattle.rules.specs.Book.{Book, hours, limits_of}
use Rattle.rules.specs.Judging.{by_class, judge_each}
pub use Rattle.rules.specs.Judging.{Verdict, accepted, hidden, limit, Judged}
unfoldable pub use Rattle.rules.specs.Judging.{is_accepted, verdict_of_row, verdict_among}

-- "normal executions, default executions, offers"
unfoldable pub closing_classes : List (Lodgement → Bool)
closing_classes =
    (λ l. l.key.execution && not l.key.default)
    ∷ (λ l. l.key.execution && l.key.default)
    ∷ (λ l. not l.key.execution)
    ∷ []

-- "Unhidden lodgements are taken in this order"; "within each, latest number first"
unfoldable pub closing_order : List Lodgement → List Lodgement
closing_order standing = by_class closing_classes (reverse (unhidden standing))

-- "its energy, plus that of those accepted before it on its unit"
unfoldable pub load_at : List Lodgement → Lodgement → ℕ → ℕ
load_at before l h = energy_at l h + sum_of (λ k. energy_at k h) (keep (λ k. eqb k.key.unit l.key.unit) before)

-- "Each is accepted unless in an hour it names its energy, plus that of those accepted before it on its unit, passes the
-- ceiling. Then it is refused whole": by the first of its limits that is passed, in that limit's lowest hour
unfoldable pub judge : Book → List Lodgement → Lodgement → Verdict
judge b before l = verdict_of_row (first_row (limit_rows (hours b) l.energies (load_at before l) (limits_of b l.key.unit)))

unfoldable pub judgements : Book → List Judged
judgements b = judge_each (λ l. l.number) (judge b) [] (closing_order b.standing)

-- "closing gives each standing one its verdict": in the order of the standing lodgements
unfoldable pub verdicts : Book → List Verdict
verdicts b = let js = judgements b in map (λ l. verdict_among js l.number) b.standing

-- those accepted at closing, in the order of their numbers
unfoldable pub accepted_at : Book → List Lodgement
accepted_at b = let js = judgements b in keep (λ l. is_accepted (verdict_among js l.number)) b.standing

unfoldable pub unfold_closing : Unit {0}
unfolding closing_classes closing_order load_at judge judgements verdicts accepted_at
unfold_closing = tt
