-- The lodgements that an hour is cleared from, by their indices in the session's arrays.
use Rattle.std.specs.Prelude.{ℕ, ◌≡◌, Bool, true, false, cond, ◌&&◌, List, map, take, length, ltb, get_or, Option, Some, None}
use Rattle.std.specs.Bool.{beq}
use Rattle.rules.specs.Lists.{keep, first, from}
use Rattle.rules.specs.Units.{unit_loss}
use Rattle.session.specs.Bare.{bare_notice, bare_energies}
use Rattle.session.specs.declared.Unit.{Unit}
use Rattle.session.specs.declared.Notice.{Notice}
use Rattle.session.specs.declared.Lodgement.{Lodgement}
use Rattle.session.specs.declared.Energies.{Energies}
use Rattle.session.specs.declared.Verdict.{Verdict}
use Rattle.session.specs.declared.Session.{Session}
use Rattle.session.specs.Image.{unit_in, no_unit, no_lodgement, no_verdict}
use Rattle.session.specs.Parts.{number_is}
use Rattle.hour_offers.specs.declared.Holder.{Holder}
use Rattle.hour_offers.specs.declared.Offer.{Offer}
use Rattle.hour_offers.specs.declared.Execution.{Execution}
use Rattle.listed.specs.View.{Lists}
use Rattle.hour.specs.declared.Hour.{Hour}

-- Holders

-- the unit with a number among some units; of a number that none has, a unit with nothing
unfoldable pub unit_among : List Unit → ℕ → Unit
unit_among us n = first (number_is n) no_unit us

-- whose a lodgement's energies are
unfoldable pub holder_of : List Unit → List ℕ → Lodgement → Holder
holder_of us losses l =
    let u = unit_among us l.key.unit in
    record { number = l.number; unit = u.number; border = u.border; purchase = u.purchase; legacy = u.legacy; loss = unit_loss losses (unit_in u) }

-- the holders of a session's standing lodgements
abbrev pub Holders : Session → List Holder → Type 0
Holders s hs = hs ≡ map (holder_of (take s.enrolled s.units) s.losses) (take s.standing s.lodgements)

abbrev pub no_holder : Holder
no_holder = record { number = 0; unit = 0; border = 0; purchase = false; legacy = false; loss = 0 }

-- What stands at an index

-- what the lodgement at an index has in the hour at index k
unfoldable pub energy_on : List Energies → ℕ → ℕ → ℕ
energy_on es k i = get_or (get_or es i bare_energies).energies k 0

unfoldable pub price_on : List Energies → ℕ → ℕ → ℕ
price_on es k i = get_or (get_or es i bare_energies).prices k 0

-- a lodgement of the kind, accepted at closing, that names an hour, in which it has some energy
unfoldable pub counts : Bool → Verdict → Lodgement → ℕ → Bool
counts execution v l energy = v.accepted && (beq l.key.execution execution && ltb 0 energy)

unfoldable pub counts_at : List Verdict → List Lodgement → List Energies → Bool → ℕ → ℕ → Bool
counts_at vs ls es execution k i = counts execution (get_or vs i no_verdict) (get_or ls i no_lodgement) (energy_on es k i)

-- the indices of those among the first n
abbrev pub chosen : Session → ℕ → Bool → ℕ → List ℕ
chosen s n execution k = keep (counts_at s.verdicts s.lodgements s.energies execution k) (from 0 n)

-- the offer or the execution of the lodgement at an index
abbrev pub offer_on : Session → List Holder → ℕ → ℕ → Offer
offer_on s hs k i = record { holder = get_or hs i no_holder; price = price_on s.energies k i; offered = energy_on s.energies k i; matched = 0 }

abbrev pub execution_on : Session → List Holder → ℕ → ℕ → Execution
execution_on s hs k i = record { holder = get_or hs i no_holder; energy = energy_on s.energies k i }

-- the capacity of a direction
unfoldable pub capacity_on : List Notice → ℕ → ℕ → Option ℕ
capacity_on cs k d = let c = get_or cs d bare_notice in cond c.given (Some (get_or c.energies k 0)) None

-- The hour at index k, of the lodgements that have these holders
pub record Built (s : Session) (hs : List Holder) (k : ℕ) (h : Hour) : Type 0 where
  pub offers : Lists h.offers (map (offer_on s hs k) (chosen s (length hs) false k))
  pub executions : Lists h.executions (map (execution_on s hs k) (chosen s (length hs) true k))
  pub capacities : h.capacities ≡ map (capacity_on s.capacities k) (from 0 8)
