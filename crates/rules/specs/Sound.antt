-- What holds of every book that opening and the calls leave: units, notices and standing lodgements within document 01's ranges,
-- what K1 says of rights, and the losses of K2.
use Rattle.std.specs.Prelude.{ℕ, ◌≤◌, ◌<◌, ◌≡◌, Bool, true, false, not, List, eqb, length}
use Rattle.std.proofs.Math.Option.{some, none}
use Rattle.rules.specs.Lists.{All, Pairwise, any, hourly}
use Rattle.rules.specs.Refusals.{given}
use Rattle.rules.specs.Hours.{is_date}
use Rattle.rules.specs.Units.{Registered, Published, Capacities, max_energy, max_loss, loss_of, bad_unit, is_second_to, french, french_of, unit_of, is_registered}
use Rattle.rules.specs.Message.{Key, Fields, bad_key, names, top_price, read}
use Rattle.rules.specs.Lodging.{Lodgement, energy_at, same_key, names_beyond, domestic_execution}
use Rattle.rules.specs.Book.{Book, hours}
use Rattle.rules.specs.DayBook.{Call, capacity, is_partner, entry}

-- "each is absent, or H energies", each 0 to 99,999: a direction of a capacity notice, a unit's available energies, or rights
pub data OfDay (H : ℕ) : Published → Type 0 where
  absent : OfDay H none
  energies : {es : List ℕ} → length es ≡ H → All (λ e. e ≤ max_energy) es → OfDay H (some es)

pub record UnitsSound (H : ℕ) (us : List Registered) : Type 0 where
  -- "At most 64 units."
  pub room : length us ≤ 64
  -- no number is registered twice
  pub distinct : Pairwise (λ r s. r.unit.number ≡ s.unit.number → ⊥) us
  -- "An agent has one unit per border 1 to 4 and side", of each mark
  pub single : Pairwise (λ r s. is_second_to r.unit s.unit ≡ false) us
  -- each unit's values are within their ranges
  pub ranges : All (λ r. bad_unit r.unit ≡ false) us
  -- "An unavailability notice gives H available energies for one unit"
  pub notices : All (λ r. OfDay H r.available) us
  -- "A rights notice gives H energies for one agent and side": all French units of the two have the same rights, others, also domestic ones, none
  pub granted : All (λ r. OfDay H r.rights) us
  pub agreed : (agent : ℕ) (purchase : Bool)
      → Pairwise (λ r s. french_of agent purchase r.unit ≡ true → french_of agent purchase s.unit ≡ true → r.rights ≡ s.rights) us
  pub foreign : All (λ r. french r.unit ≡ false → r.rights ≡ none) us
  -- a marked unit has its partner (that this was there before, "once its unit without them exists", is row 15)
  pub partnered : All (λ r. r.unit.rights ≡ true → any (is_partner r.unit.agent r.unit.purchase) us ≡ true) us

-- lodgements by rising number
abbrev pub Numbered : List Lodgement → Type 0
Numbered ls = Pairwise (λ k l. k.number < l.number) ls

-- the unit of a key is registered, and no domestic one for an execution
pub record HasUnit (us : List Registered) (k : Key) : Type 0 where
  pub registered : is_registered us k.unit ≡ true
  pub border : domestic_execution k (unit_of us k.unit).unit ≡ false

-- a standing lodgement is what its message says
pub record Lodged (H : ℕ) (l : Lodgement) : Type 0 where
  pub bytes : List ℕ
  pub fields : Fields
  pub reads : read bytes ≡ given fields
  pub entered : l ≡ entry fields l.number
  -- the message names no hour beyond H
  pub day : names_beyond H fields.map ≡ false
  -- and so: unit and contract are within their ranges
  pub key : bad_key l.key ≡ false
  -- energies and prices are 25 each
  pub energy_count : length l.energies ≡ 25
  pub price_count : length l.prices ≡ 25
  -- "Energy is in tenths of MWh, 0 to 99,999", and 0 beyond hour H
  pub energy : (h : ℕ) → energy_at l h ≤ max_energy
  pub beyond : (h : ℕ) → H < h → energy_at l h ≡ 0
  -- the hours that the message names are those with energy: "Named energies are 1 to 99,999; an unnamed hour's energy [is] 0"
  pub named : (h : ℕ) → names fields.map h ≡ not (eqb (energy_at l h) 0)
  -- prices are 0 to 18,030, "all prices of an execution" and that of an hour without energy are 0
  pub price : (h : ℕ) → hourly l.prices h ≤ top_price l.key.execution
  pub unnamed : (h : ℕ) → energy_at l h ≡ 0 → hourly l.prices h ≡ 0

pub record StandingSound (H : ℕ) (us : List Registered) (ls : List Lodgement) (last : ℕ) : Type 0 where
  -- "There are up to 128 standing lodgements, and 65,535 accepted ones in a session."
  pub room : length ls ≤ 128
  pub counted : last ≤ 65535
  -- they stand by rising lodging number, "from 1", none above the last
  pub rising : Numbered ls
  pub from_one : All (λ l. 1 ≤ l.number) ls
  pub to_last : All (λ l. l.number ≤ last) ls
  -- "A lodgement replaces the one with its key"
  pub keys : Pairwise (λ k l. same_key k.key l.key ≡ false) ls
  pub holders : All (λ l. HasUnit us l.key) ls
  pub messages : All (Lodged H) ls

-- K2: "Each border 1 to 4 gets a loss l, 0 to 2,000", and what is at no border loses nothing
pub record LossesSound (losses : List ℕ) : Type 0 where
  pub count : length losses ≡ 5
  pub domestic : loss_of losses 0 ≡ 0
  pub range : All (λ l. l ≤ max_loss) losses

pub record Sound (b : Book) : Type 0 where
  pub date : is_date b.date ≡ true
  pub units : UnitsSound (hours b) b.units
  -- "A capacity notice covers the 4 borders in 2 directions; each is absent, or H energies."
  pub capacities : All (OfDay (hours b)) b.capacities
  pub standing : StandingSound (hours b) b.units b.standing b.last
  pub losses : LossesSound b.losses
  -- clearing comes after closing
  pub stage : b.cleared ≡ true → b.closed ≡ true

-- what a call's types give: a capacity notice has its 8 directions
pub record WellTyped (c : Call) : Type 0 where
  pub directions : (cs : Capacities) → c ≡ capacity cs → length cs ≡ 8
