-- Maxima of a border's direction: absent exactly where no capacity is published.
use Prim.Native.Nat.{ℕ, ◌+◌, ◌-◌, ◌≤◌, ◌<◌}
use mathlib.Core.Path.{◌≡◌, ap, ap₂, sym, ◌∙◌}
use mathlib.Core.Bool.{Bool, not}
use mathlib.Core.List.{List}
use mathlib.Core.Option.{some, none}
use native.Mathlib.Omega.{arith}
use lib.IntN.{ℤ, pos, sub_ℕ, ◌-ℤ◌}
use lib.ListN.{length, get_or}
use Rattle.rules.specs.Lists.{hourly}
use Rattle.rules.specs.Units.{Published, capacity_of}
use Rattle.rules.specs.Book.{Book}
use Rattle.rules.specs.Closing.{accepted_at}
use Rattle.rules.specs.Match.{Offer, match_all}
use Rattle.rules.specs.Borders.{Directed}
use Rattle.rules.specs.Split.{maximum_of}
use Rattle.rules.specs.Executions.{bilateral_maximum}
use Rattle.rules.specs.Clearing.{Hour, clear_hour, hour_of_day, figures_at, capacities_at}
use Rattle.rules.specs.Queries.{number, absent, directed_at}
use Rattle.rules.proofs.ListLaws.{get_or-pad}
use Rattle.rules.proofs.BalanceLaws.{market_flow, market-toward, pos-sub, less-sub}
use Rattle.session.specs.Laid.{pad}
use Rattle.session.specs.Image.{notice_as, energy_of}
use Rattle.query_maximum.proofs.DirectionLaws.{published_at, shown_of, energy_in, mapped, seek, directed-seek, energy-seek, seek-maxima, seek-capacities}

-- E less the balance seen in the direction: E and what runs against it, less what runs along it
pub bilateral-by-flows : (os : List Offer) (c : Directed)
    → bilateral_maximum os c ≡ sub_ℕ (c.energy + market_flow c.border (not c.export) os) (market_flow c.border c.export os)
unfolding bilateral_maximum
bilateral-by-flows os c =
    let along = market_flow c.border c.export os in
    let against = market_flow c.border (not c.export) os in
    ap₂ (λ y z. y -ℤ z) (pos-sub c.energy) (market-toward c.border c.export os)
    ∙ less-sub c.energy 0 along against
    ∙ ap (sub_ℕ (c.energy + against)) (let q : 0 + along ≡ along = omega arith in q)

-- the energy of a kept notice in an hour
pub notice-hourly : (es : List ℕ) (h : ℕ) → get_or (notice_as (some es)).energies (h - 1) 0 ≡ hourly es h
unfolding notice_as pad hourly
notice-hourly es h = get_or-pad es (25 - length es) (h - 1)

module _ (b : Book) (border : ℕ) (export : Bool) (low : 0 < border) (high : border ≤ 4) (h : ℕ) where
  abbrev capacity : Published
  capacity = capacity_of b.capacities border export

  abbrev day : Hour
  day = hour_of_day b (accepted_at b) h

  -- the market maximum that a capacity leaves
  abbrev left : Directed → Directed
  left = maximum_of (match_all day.offers) day.executions

  seek-hour : seek border export (figures_at b h).maxima ≡ mapped left (published_at h border export capacity)
  unfolding figures_at clear_hour hour_of_day
  seek-hour = seek-maxima border export _ _ (capacities_at b.capacities h) ∙ ap (mapped left) (seek-capacities b.capacities h border export low high)

  module _ (f : Directed → ℤ) where
    maxima-shown : directed_at f border export (figures_at b h).maxima ≡ shown_of f (mapped left (published_at h border export capacity))
    maxima-shown = directed-seek border export f (figures_at b h).maxima ∙ ap (shown_of f) seek-hour

    capacities-shown : directed_at f border export (capacities_at b.capacities h) ≡ shown_of f (published_at h border export capacity)
    capacities-shown =
        directed-seek border export f (capacities_at b.capacities h) ∙ ap (shown_of f) (seek-capacities b.capacities h border export low high)

    pub no-maximum : capacity ≡ none → directed_at f border export (figures_at b h).maxima ≡ absent
    unfolding shown_of mapped published_at
    no-maximum q = maxima-shown ∙ ap (λ c. shown_of f (mapped left (published_at h border export c))) q

    pub no-capacity : capacity ≡ none → directed_at f border export (capacities_at b.capacities h) ≡ absent
    unfolding shown_of published_at
    no-capacity q = capacities-shown ∙ ap (λ c. shown_of f (published_at h border export c)) q

    pub the-capacity : (es : List ℕ) → capacity ≡ some es
        → directed_at f border export (capacities_at b.capacities h) ≡ number (f (record { border = border; export = export; energy = hourly es h }))
    unfolding shown_of published_at
    the-capacity es q = capacities-shown ∙ ap (λ c. shown_of f (published_at h border export c)) q

  pub the-maximum : (es : List ℕ) → capacity ≡ some es
      → directed_at (λ m. pos m.energy) border export (figures_at b h).maxima ≡ number (pos (energy_of (figures_at b h).maxima border export))
  unfolding shown_of mapped published_at energy_in
  the-maximum es q =
      maxima-shown (λ m. pos m.energy)
      ∙ ap (λ c. shown_of (λ m. pos m.energy) (mapped left (published_at h border export c))) q
      ∙ ap (λ n. number (pos n))
      (sym (energy-seek border export (figures_at b h).maxima ∙ ap energy_in (seek-hour ∙ ap (λ c. mapped left (published_at h border export c)) q)))
