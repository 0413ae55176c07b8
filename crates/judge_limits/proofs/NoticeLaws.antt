-- What a caller needs: the judgement by a session's arrays is that by the rules' unit and capacities which they stand for.
use Prim.Native.Nat.{ℕ, ◌-◌, ◌≤◌}
use mathlib.Core.Path.{◌≡◌, refl, ap, ap₂, ◌∙◌}
use mathlib.Core.Bool.{Bool, true, false, cond, not}
use mathlib.Core.List.{List, [], ◌∷◌, map}
use mathlib.Core.Option.{Option, some, none}
use lib.Dec.{eqb}
use lib.ListN.{length, get_or-map}
use Rattle.rules.specs.Lists.{Each, each0, each, hourly}
use Rattle.rules.specs.Refusals.{Row, limit_row, first_row}
use Rattle.rules.specs.Units.{Limit, Registered, Capacities, Lines, Published, direction, capacity_of, both_at, available_at, rights_at, unit_loss, border_sum, increased_sum, lessened, maximum_limit, available_limit, own_limits, border_limit, rights_limit, border_limits, limits}
use Rattle.rules.specs.Lodging.{passed_at, judged_by, limit_rows}
use Rattle.rules.proofs.ListLaws.{get_or-pad}
use Rattle.session.specs.Laid.{pad}
use Rattle.session.specs.Image.{unit_as, notice_as}
use Rattle.session.specs.Parts.{given_by}
use Rattle.session.specs.declared.Unit.{Unit}
use Rattle.session.specs.declared.Notice.{Notice}
use Rattle.judge_limits.specs.Limits.{notice_in, registered_in, lines_in, judged_in}
use Rattle.judge_limits.proofs.RowLaws.{lowest-same, limit-same}

-- zeros after the energies change no hour
pub hourly-pad : (n : ℕ) (es : List ℕ) (h : ℕ) → hourly (pad n 0 es) h ≡ hourly es h
unfolding hourly pad
hourly-pad n es h = get_or-pad es (n - length es) (h - 1)

both-as : (h : ℕ) (e i : Published) → both_at h (notice_in (notice_as e)) (notice_in (notice_as i)) ≡ both_at h e i
unfolding both_at notice_in notice_as
both-as h none i = refl
both-as h (some e) none = refl
both-as h (some e) (some i) = rw (hourly-pad 25 e h, hourly-pad 25 i h)

-- rows by loads that are the same in every hour
pub rows-load : (H : ℕ) (own : List ℕ) (f g : ℕ → ℕ) → ((h : ℕ) → 1 ≤ h → h ≤ H → f h ≡ g h) → (ls : List Limit) → limit_rows H own f ls ≡ limit_rows H own g ls
unfolding limit_rows limit_row passed_at
rows-load H own f g e [] = refl
rows-load H own f g e (l ∷ ls) =
    ap₂ (λ (h : ℕ) (rs : List Row). record { number = l.number; hour = h; applies = not (eqb h 0) } ∷ rs)
    (lowest-same (passed_at own f l) (passed_at own g l) H (λ h a b. rw (e h a b))) (rows-load H own f g e ls)

module _ (r : Registered) (ls : Lines) where
  abbrev cs : Capacities
  cs = ls.capacities

  abbrev here : Registered
  here = registered_in (unit_as r.unit) (notice_as r.available) (notice_as r.rights)

  abbrev around : Capacities
  around = map notice_in (map notice_as cs)

  notice-as : (m h : ℕ) (a : Option (List ℕ)) → ◌≡◌ {A = ℕ} (elim (notice_in (notice_as a)) [ none ↦ m | some es ↦ hourly es h ]) (elim a [ none ↦ m | some es ↦ hourly es h ])
  unfolding notice_in notice_as
  notice-as m h none = refl
  notice-as m h (some es) = hourly-pad 25 es h

  available-as : (h : ℕ) → available_at here h ≡ available_at r h
  unfolding available_at
  available-as h = notice-as r.unit.maximum h r.available

  rights-as : (h : ℕ) → rights_at here h ≡ rights_at r h
  unfolding rights_at
  rights-as h = notice-as 0 h r.rights

  direction-as : (b : ℕ) (x : Bool) → capacity_of around b x ≡ notice_in (notice_as (capacity_of cs b x))
  unfolding capacity_of notice_in notice_as
  direction-as b x = get_or-map notice_in (map notice_as cs) (direction b x) (notice_as none) ∙ ap notice_in (get_or-map notice_as cs (direction b x) none)

  border-as : (b h : ℕ) → border_sum around b h ≡ border_sum cs b h
  unfolding border_sum
  border-as b h = rw (direction-as b true, direction-as b false, both-as h (capacity_of cs b true) (capacity_of cs b false))

  module _ (H : ℕ) (own : List ℕ) (load : ℕ → ℕ) where
    abbrev Same : Limit → Limit → Type 0
    Same l m = (l.number ≡ m.number) × ((h : ℕ) → l.at h ≡ m.at h)

    row_same : (l m : Limit) → l.number ≡ m.number → ((h : ℕ) → l.at h ≡ m.at h) → limit_row l.number H (passed_at own load l) ≡ limit_row m.number H (passed_at own load m)
    unfolding limit_row
    row_same l m e f = ap₂ (λ (n h : ℕ). record { number = n; hour = h; applies = not (eqb h 0) }) e (limit-same H own load l m (λ h x y. f h))

    -- limits that are the same one by one have the same rows
    rows_same : {ls ms : List Limit} → Each Same ls ms → limit_rows H own load ls ≡ limit_rows H own load ms
    unfolding limit_rows
    rows_same each0 = refl
    rows_same (each {x = l} {y = m} e t) = ap₂ (λ (x : Row) (rows : List Row). x ∷ rows) (row_same l m e.0 e.1) (rows_same t)

    rows_as : (only : Bool) → limit_rows H own load (judged_by (lines_in (map notice_as cs) ls.losses) here only) ≡ limit_rows H own load (judged_by ls r only)
    unfolding judged_by limits own_limits border_limits maximum_limit available_limit border_limit rights_limit
    rows_as true = refl
    rows_as false =
        rows_same
        (each (refl, λ h. refl)
        (each (refl, λ h. ap some (available-as h))
        (each (refl, λ h. ap₂ (λ (k : ℕ) (o : Option ℕ). lessened (cond r.unit.rights 0 k) (increased_sum (unit_loss ls.losses r.unit) o)) (rights-as h) (border-as r.unit.border h))
        (each (refl, λ h. ap (λ (k : ℕ). cond r.unit.rights (some k) none) (rights-as h)) each0))))

    pub judged-as : (u : Unit) (n g : Notice) (ns : List Notice) (losses : List ℕ) (only : Bool) → u ≡ unit_as r.unit → n ≡ notice_as r.available → g ≡ notice_as r.rights → ns ≡ map notice_as cs → losses ≡ ls.losses
        → judged_in u n g ns losses only H own load ≡ given_by (first_row (limit_rows H own load (judged_by ls r only)))
    unfolding judged_in
    judged-as u n g ns losses only e f k l m = rw (e, f, k, l, m) (ap (λ rows. given_by (first_row rows)) (rows_as only))

    -- and by a load that is the same in every hour
    pub judged-by : (u : Unit) (n g : Notice) (ns : List Notice) (losses : List ℕ) (only : Bool) (f : ℕ → ℕ) → u ≡ unit_as r.unit → n ≡ notice_as r.available → g ≡ notice_as r.rights → ns ≡ map notice_as cs → losses ≡ ls.losses
        → ((h : ℕ) → 1 ≤ h → h ≤ H → load h ≡ f h) → judged_in u n g ns losses only H own load ≡ given_by (first_row (limit_rows H own f (judged_by ls r only)))
    judged-by u n g ns losses only f e k l m t same = judged-as u n g ns losses only e k l m t ∙ ap (λ rows. given_by (first_row rows)) (rows-load H own load f same (judged_by ls r only))
