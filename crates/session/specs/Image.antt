-- The session that stands for a book: its lists laid into arrays, blanks after them.
use Rattle.std.specs.Prelude.{ℕ, ◌+◌, ◌/◌, ◌%◌, ◌≡◌, Bool, true, false, cond, ◌&&◌, List, [], ◌∷◌, map, eqb, length, replicate}
use Rattle.std.specs.Bool.{beq}
use Rattle.std.proofs.Math.Option.{Option, some, none}
use Rattle.rules.specs.Lists.{from}
use Rattle.rules.specs.Hours as H
use Rattle.rules.specs.Units as U
use Rattle.rules.specs.Message as M
use Rattle.rules.specs.Lodging as L
use Rattle.rules.specs.Book as B
use Rattle.rules.specs.Closing as C
use Rattle.rules.specs.Borders.{Directed, flow}
use Rattle.rules.specs.Clearing.{figures_at}
use Rattle.rules.specs.Queries.{matched_at, executed_at}
use Rattle.rules.specs.Sound as R
use Rattle.calendar.specs.declared.Date.{Date}
use Rattle.session.specs.Laid.{pad, counted}
use Rattle.session.specs.declared.Unit.{Unit}
use Rattle.session.specs.declared.Notice.{Notice}
use Rattle.session.specs.declared.Published.{Published}
use Rattle.session.specs.declared.Key.{Key}
use Rattle.session.specs.declared.Lodgement.{Lodgement}
use Rattle.session.specs.declared.Energies.{Energies}
use Rattle.session.specs.declared.Verdict.{Verdict}
use Rattle.session.specs.declared.HourFigures.{HourFigures}
use Rattle.session.specs.declared.Session.{Session}

-- What a caller's struct says

abbrev pub unit_in : Unit → U.TradingUnit
unit_in u = record { number = u.number; agent = u.agent; border = u.border; purchase = u.purchase; maximum = u.maximum; legacy = u.legacy; rights = u.rights }

-- a direction of a capacity notice: "each is absent, or H energies"; how many it has is its own count
unfoldable pub published_in : Published → U.Published
published_in p = cond p.published (some (counted p.count p.energies)) none

-- the directions in the order of the rules' `Capacities`
abbrev pub capacities_in : List Published → U.Capacities
capacities_in ps = map published_in ps

abbrev pub key_in : Key → M.Key
key_in k = record { execution = k.execution; default = k.default; unit = k.unit; contract = k.contract }

-- How the book's things are laid out; what is reserved is 0

abbrev pub date_as : H.Date → Date
date_as d = record { year = d.year; month = d.month; day = d.day }

abbrev pub unit_as : U.TradingUnit → Unit
unit_as u = record { number = u.number; agent = u.agent; border = u.border; maximum = u.maximum; purchase = u.purchase; legacy = u.legacy; rights = u.rights; reserved = 0 }

-- energies of an unavailability notice, of a rights notice, or of a published direction
unfoldable pub notice_as : Option (List ℕ) → Notice
notice_as none = record { given = false; reserved = 0; reserved2 = 0; energies = replicate 25 0 }
notice_as (some es) = record { given = true; reserved = 0; reserved2 = 0; energies = pad 25 0 es }

abbrev pub unit_of : U.Registered → Unit
unit_of r = unit_as r.unit

abbrev pub notice_of : U.Registered → Notice
notice_of r = notice_as r.available

-- its agent's rights on its side
abbrev pub rights_of : U.Registered → Notice
rights_of r = notice_as r.rights

abbrev pub key_as : M.Key → Key
key_as k = record { execution = k.execution; default = k.default; reserved = 0; unit = k.unit; contract = k.contract }

abbrev pub lodgement_as : L.Lodgement → Lodgement
lodgement_as l = record { key = key_as l.key; number = l.number }

abbrev pub energies_as : L.Lodgement → Energies
energies_as l = record { energies = l.energies; prices = l.prices }

unfoldable pub verdict_as : C.Verdict → Verdict
verdict_as C.accepted = record { accepted = true; reserved = 0; reserved2 = 0; limit = 0; hour = 0 }
verdict_as C.hidden = record { accepted = false; reserved = 0; reserved2 = 0; limit = 0; hour = 0 }
verdict_as (C.limit n h) = record { accepted = false; reserved = 0; reserved2 = 0; limit = n; hour = h }

-- energies of the eight directions, at their indices (`direction` of the rules)
unfoldable pub by_direction : (ℕ → Bool → ℕ) → List ℕ
by_direction f = map (λ d. f (d / 2 + 1) (eqb (d % 2) 0)) (from 0 8)

-- the energy of a direction among those of the published ones, 0 where it is not
unfoldable pub energy_of : List Directed → ℕ → Bool → ℕ
energy_of [] border export = 0
energy_of (d ∷ ds) border export = cond (eqb d.border border && beq d.export export) d.energy (energy_of ds border export)

-- an energy of each unit, at its index
unfoldable pub by_unit : (ℕ → ℕ) → List U.Registered → List ℕ
by_unit f us = pad 64 0 (map (λ r. f r.unit.number) us)

-- an hour's figures
unfoldable pub figures_as : B.Book → ℕ → HourFigures
figures_as b h =
    let x = figures_at b h in
    record {
      price = x.price;
      market = by_direction (λ border export. flow (λ o. o.holder) (λ o. o.matched) border export x.offers);
      bilateral = by_direction (λ border export. flow (λ x. x.holder) (λ x. x.energy) border export x.executions);
      maxima = by_direction (energy_of x.maxima);
      matched = by_unit (λ u. matched_at b u h) b.units;
      executed = by_unit (λ u. executed_at b u h) b.units;
    }

-- blanks

abbrev pub no_unit : Unit
no_unit = record { number = 0; agent = 0; border = 0; maximum = 0; purchase = false; legacy = false; rights = false; reserved = 0 }

abbrev pub no_notice : Notice
no_notice = record { given = false; reserved = 0; reserved2 = 0; energies = replicate 25 0 }

abbrev pub no_lodgement : Lodgement
no_lodgement = record { key = record { execution = false; default = false; reserved = 0; unit = 0; contract = 0 }; number = 0 }

abbrev pub no_energies : Energies
no_energies = record { energies = replicate 25 0; prices = replicate 25 0 }

abbrev pub no_verdict : Verdict
no_verdict = record { accepted = false; reserved = 0; reserved2 = 0; limit = 0; hour = 0 }

abbrev pub no_figures : HourFigures
no_figures = record {
  price = 0;
  market = replicate 8 0;
  bilateral = replicate 8 0;
  maxima = replicate 8 0;
  matched = replicate 64 0;
  executed = replicate 64 0;
}

-- The image

-- verdicts once closed, and the hours with figures once cleared
unfoldable pub verdicts_in : B.Book → List C.Verdict
verdicts_in b = cond b.closed (C.verdicts b) []

unfoldable pub hours_in : B.Book → List ℕ
hours_in b = cond b.cleared (from 1 (B.hours b)) []

unfoldable pub image : B.Book → Session
image b = record {
  date = date_as b.date;
  hours = B.hours b;
  enrolled = length b.units;
  units = pad 64 no_unit (map unit_of b.units);
  notices = pad 64 no_notice (map notice_of b.units);
  capacities = map notice_as b.capacities;
  standing = length b.standing;
  lodgements = pad 128 no_lodgement (map lodgement_as b.standing);
  energies = pad 128 no_energies (map energies_as b.standing);
  last = b.last;
  closed = b.closed;
  cleared = b.cleared;
  reserved = 0;
  verdicts = pad 128 no_verdict (map verdict_as (verdicts_in b));
  figures = pad 25 no_figures (map (figures_as b) (hours_in b));
  reserved2 = 0;
  rights = pad 64 no_notice (map rights_of b.units);
  losses = b.losses;
  reserved3 = 0;
}

-- What holds of every book that opening and the calls leave: the rules' ranges, and a capacity notice of 4 times 2 directions
pub record Sound (b : B.Book) : Type 0 where
  pub ranges : R.Sound b
  pub directions : length b.capacities ≡ 8
