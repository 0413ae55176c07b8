-- An hour that a session can hold, the test for it, and what clearing it gives.
use Rattle.std.specs.Prelude.{ℕ, ◌+◌, ◌≤◌, ◌<◌, ◌≡◌, Bool, true, false, cond, ◌&&◌, map, length, leb, eqb, unwrap_or, Option, Some, None}
use Rattle.rules.specs.Lists.{All, Pairwise}
use Rattle.rules.specs.Units.{max_energy, max_price, max_loss, passes, increased_sum}
use Rattle.rules.specs.Match.{Holder, Offer}
use Rattle.rules.specs.Borders.{Execution}
use Rattle.rules.specs.Clearing as C
use Rattle.listed.specs.View.{listed}
use Rattle.hour.specs.Ranges.{offers_within, executions_within, capacities_within}
use Rattle.hour.specs.declared.Hour.{Hour}
use Rattle.hour.specs.declared.Figures.{Figures}
use Rattle.hour.specs.View.{hour_in, figures_as}
use Rattle.hour.specs.Units.{lodgement_of, lodgements_of, unit_energy, line_in, last_ones, same_unit, lodgements_possible}

abbrev pub Between : ℕ → ℕ → ℕ → Type 0
Between least most x = (least ≤ x) × (x ≤ most)

-- Whose an energy can be, at borders from `first` on.
pub record HolderWithin (first : ℕ) (x : Holder) : Type 0 where
  -- "the next lodging number, from 1", "65,535 accepted ones in a session"
  pub number : Between 1 65535 x.number
  -- "A unit has a number [..] (each 1 to 65,535)"
  pub unit : Between 1 65535 x.unit
  pub border : Between first 4 x.border
  -- "a legacy mark [..] (borders 1 to 4 only)"
  pub legacy : x.legacy ≡ true → 1 ≤ x.border
  -- K2: "Each border 1 to 4 gets a loss l, 0 to 2,000", which "exporters there must bring": a purchase's there is its border's, every other one 0
  pub loss : x.loss ≤ max_loss
  pub sale : x.purchase ≡ false → x.loss ≡ 0
  pub domestic : x.border ≡ 0 → x.loss ≡ 0

pub record OfferWithin (o : Offer) : Type 0 where
  pub holder : HolderWithin 0 o.holder
  pub price : o.price ≤ max_price
  -- "Named energies are 1 to 99,999": only lodgements that name the hour are in it
  pub energy : Between 1 max_energy o.offered

pub record ExecutionWithin (x : Execution) : Type 0 where
  -- "Executions need a border unit."
  pub holder : HolderWithin 1 x.holder
  pub energy : Between 1 max_energy x.energy

-- An hour in its ranges: every part is within its own, as one pass over it tells. What an offer has as matched, and what stands behind a count,
-- is not looked at, and no figure depends on it. Clearing needs no more than this to be safe, and so the day's hours, which are all ready, are tested for no more
-- (`hour_clear::clear_into`).
pub record HourInRange (h : Hour) : Type 0 where
  -- "At most 64 units", each with one accepted offer at most
  pub offering : h.offers.count ≤ 64
  -- "There are up to 128 standing lodgements"
  pub room : h.offers.count + h.executions.count ≤ 128
  -- each kind by rising lodging number: in this order Share hands out, and equal prices are matched
  pub offers : All OfferWithin (hour_in h).offers
  pub offers-rise : Pairwise (λ o p. o.holder.number < p.holder.number) (hour_in h).offers
  pub executions : All ExecutionWithin (hour_in h).executions
  pub executions-rise : Pairwise (λ x y. x.holder.number < y.holder.number) (hour_in h).executions
  -- "each is absent, or H energies": 0 stands for none
  pub capacities : All (λ c. unwrap_or c 0 ≤ max_energy) h.capacities

-- `HourInRange` as a test (`range-holds` and `range-told` of proofs/RangeLaws.antt)
unfoldable pub is_in_range : Hour → Bool
is_in_range h =
    let o = listed h.offers in
    let x = listed h.executions in
    leb h.offers.count 64 && (leb (h.offers.count + h.executions.count) 128 && (offers_within o && (executions_within x && capacities_within h.capacities)))

-- two holders with one border, side and legacy mark
pub record SameUnit (x y : Holder) : Type 0 where
  pub border : x.border ≡ y.border
  pub purchase : x.purchase ≡ y.purchase
  pub legacy : x.legacy ≡ y.legacy

-- The units that a session can have in an hour, the rules' hour being given.
pub record UnitsPossible (x : C.Hour) : Type 0 where
  -- a lodgement "takes and answers the next lodging number": no two of either kind have one
  pub numbers : Pairwise (λ k l. k.holder.number ≡ l.holder.number → ⊥) (lodgements_of x)
  -- "A unit has a number and an agent [..], a border [..], a side [..], a maximum energy, and a legacy mark": a number has one of each
  pub agree : Pairwise (λ k l. k.holder.unit ≡ l.holder.unit → SameUnit k.holder l.holder) (lodgements_of x)
  -- K2: "Each border 1 to 4 gets a loss l", one for all its purchases; that of every sale is 0
  pub losses : Pairwise (λ k l. k.holder.border ≡ l.holder.border → k.holder.purchase ≡ l.holder.purchase → k.holder.loss ≡ l.holder.loss) (lodgements_of x)
  -- "the unit's unhidden offer": of two with one unit the normal one hides the default one
  pub single : Pairwise (λ o p. o.holder.unit ≡ p.holder.unit → ⊥) x.offers
  -- "At most 64 units."
  pub few : length (last_ones same_unit (lodgements_of x)) ≤ 64
  -- "its energy, plus that of those accepted before it on its unit" does not pass the ceiling, which is at most the largest energy
  pub maxima : All (λ l. unit_energy (lodgements_of x) l.holder.unit ≤ max_energy) (lodgements_of x)
  -- and at most "at a border with both directions published, the sum of the two capacities (limit 12)", K2: which for a purchase unit
  -- "becomes (sum × (10,000 + l)) / 10,000 rounded down"
  pub lines : All (λ l. passes (unit_energy (lodgements_of x) l.holder.unit) (increased_sum l.holder.loss (line_in x.capacities l.holder.border)) ≡ false) (lodgements_of x)

-- An hour that a session can hold: exactly the hours of sound, closed books (`Sound` of crates/session/specs/Image.antt). Every hour gathered from a
-- session that stands for such a book is ready (`hour-ready` of crates/clear_gather/proofs/HourReadyLaws.antt), and every ready hour is hour 1 of one
-- (`ready_held` of crates/clear_gather/proofs/HoldingLaws.antt). Every book that calls leave is sound; that calls lead to each sound book is not
-- proved. Agents, contracts and default marks are not in an hour.
pub record Ready (h : Hour) : Type 0 where
  pub ranges : HourInRange h
  pub units : UnitsPossible (hour_in h)

-- what `Ready` asks of units, as a test: the offers are of as many units as they are
unfoldable pub units_possible : Hour → Bool
units_possible h =
    let os = map lodgement_of (hour_in h).offers in
    eqb (length (last_ones same_unit os)) (length os) && lodgements_possible (hour_in h).capacities (lodgements_of (hour_in h))

-- `Ready` as a test (`ready-holds` and `ready-told` of proofs/UnitLaws.antt)
unfoldable pub is_ready : Hour → Bool
is_ready h = is_in_range h && units_possible h

-- an hour's figures: the rules' where it is ready, and none where it is not
unfoldable pub figures_of : Hour → Option Figures
figures_of h = cond (is_ready h) (Some (figures_as (C.clear_hour (hour_in h)))) None

-- the same where only its ranges are tested
unfoldable pub figures_in_range : Hour → Option Figures
figures_in_range h = cond (is_in_range h) (Some (figures_as (C.clear_hour (hour_in h)))) None
