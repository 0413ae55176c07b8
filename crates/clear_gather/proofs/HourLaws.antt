-- An hour built from a session is the rules' hour of the book.
use Prim.Native.Nat.{ℕ, suc, ◌+◌, ◌-◌, ◌/◌, ◌%◌, ◌<◌}
use mathlib.Core.Path.{◌≡◌, refl, sym, ap, ◌∙◌}
use mathlib.Core.Bool.{Bool, true, false, cond}
use mathlib.Core.List.{List, [], ◌∷◌, map, map-map}
use mathlib.Core.Option.{some, none as nothing}
use native.Mathlib.Omega.{arith}
use lib.Dec.{eqb}
use lib.ListN.{get_or, length}
use Rattle.std.specs.Prelude.{is_some, unwrap_or, Option, Some, None}
use Rattle.rules.specs.Lists.{keep, from, hourly}
use Rattle.rules.specs.Units as U
use Rattle.rules.specs.Lodging as L
use Rattle.rules.specs.Book as B
use Rattle.rules.specs.Closing as C
use Rattle.rules.specs.Match.{Holder, Offer}
use Rattle.rules.specs.Borders.{Directed, Execution}
use Rattle.rules.specs.Clearing as R
use Rattle.rules.proofs.ListLaws.{hourly-suc, get_or-pad}
use Rattle.rules.proofs.IndexLaws.{from_all}
use Rattle.hour_offers.specs.declared.Holder.{Holder as Own}
use Rattle.hour_offers.specs.View.{execution_in}
use Rattle.listed.specs.View.{listed}
use Rattle.hour.specs.declared.Hour.{Hour}
use Rattle.hour_borders.specs.Directions.{directed, energies_of, published_in}
use Rattle.hour.specs.View.{fresh_in, hour_in}
use Rattle.hour.proofs.RangeLaws.{energy-of}
use Rattle.session.specs.Bare.{bare_notice}
use Rattle.session.specs.declared.Session.{Session}
use Rattle.session.specs.declared.Notice.{Notice}
use Rattle.session.specs.declared.Energies.{Energies}
use Rattle.session.specs.Laid.{pad}
use Rattle.session.specs.Image as I
use Rattle.session.proofs.IndexLaws.{get_or-map}
use Rattle.session.proofs.ImageLaws.{capacities-as}
use Rattle.clear_gather.specs.Built.{Holders, energy_on, price_on, offer_on, execution_on, capacity_on, Built}
use Rattle.clear_gather.proofs.ListLaws.{flat, kept-flat, eight}
use Rattle.hour.proofs.LaidLaws.{eight-at}
use Rattle.clear_gather.proofs.DayLaws.{standing, chosen_in, energies-at, holder-at, holders-long, gathered, named-offers, named-executions}

-- equal parts make equal records

offer-same : {x y : Holder} {p q e f m : ℕ} → x ≡ y → p ≡ q → e ≡ f
    → ◌≡◌ {A = Offer} (record { holder = x; price = p; offered = e; matched = m }) (record { holder = y; price = q; offered = f; matched = m })
offer-same a b c = rw (a, b, c)

execution-same : {x y : Holder} {e f : ℕ} → x ≡ y → e ≡ f → ◌≡◌ {A = Execution} (record { holder = x; energy = e }) (record { holder = y; energy = f })
execution-same a b = rw (a, b)

directed-same : (border : ℕ) (export : Bool) {e f : ℕ} → e ≡ f → ◌≡◌ {A = List Directed} (record { border = border; export = export; energy = e } ∷ []) (record { border = border; export = export; energy = f } ∷ [])
directed-same border export a = rw a

pub hour-same : {c d : List Directed} {o p : List Offer} {x y : List Execution} → c ≡ d → o ≡ p → x ≡ y
    → ◌≡◌ {A = R.Hour} (record { capacities = c; offers = o; executions = x }) (record { capacities = d; offers = p; executions = y })
hour-same a b c = rw (a, b, c)

-- Capacities

-- a notice's energy in an hour, where it is given
abbrev pub given_at : Notice → ℕ → Option ℕ
given_at n k = cond n.given (Some (get_or n.energies k 0)) None

-- a direction as the session keeps it
direction-as : (border : ℕ) (export : Bool) (k : ℕ) (q : U.Published)
    → cond (is_some (given_at (I.notice_as q) k)) (record { border = border; export = export; energy = unwrap_or (given_at (I.notice_as q) k) 0 } ∷ []) [] ≡ R.published (suc k) border export q
unfolding I.notice_as R.published pad
direction-as border export k nothing = refl
direction-as border export k (some es) = directed-same border export (get_or-pad es (25 - length es) k ∙ sym (hourly-suc es k))

module _ (s : Session) (b : B.Book) (e : s ≡ I.image b) (eight-long : length b.capacities ≡ 8) (k : ℕ) where
  pub capacity-as : (d : ℕ) → d < 8 → capacity_on s.capacities k d ≡ given_at (I.notice_as (get_or b.capacities d nothing)) k
  unfolding capacity_on
  capacity-as d l = rw (capacities-as s b e) (ap (λ (n : Notice). given_at n k) (get_or-map I.notice_as nothing bare_notice b.capacities d (omega arith)))

  module _ (cs : List (Option ℕ)) (c : cs ≡ map (capacity_on s.capacities k) (from 0 8)) where
    pub capacity-of : (d : ℕ) → d < 8 → get_or cs d None ≡ capacity_on s.capacities k d
    capacity-of d l = rw c (eight-at (capacity_on s.capacities k) None d l)

    published-as : (d : ℕ) → d < 8
        → cond (is_some (get_or cs d None)) (directed (energies_of cs) d ∷ []) [] ≡ R.published (suc k) (d / 2 + 1) (eqb (d % 2) 0) (get_or b.capacities d nothing)
    unfolding directed
    published-as d l =
        let g = capacity-of d l ∙ capacity-as d l in
        rw (energy-of cs d, g) (direction-as (d / 2 + 1) (eqb (d % 2) 0) k (get_or b.capacities d nothing))

    pub capacities-said : published_in cs ≡ R.capacities_at b.capacities (suc k)
    unfolding published_in flat from R.capacities_at R.border_capacities U.capacity_of U.direction
    capacities-said =
        let g : ℕ → List Directed = λ d. R.published (suc k) (d / 2 + 1) (eqb (d % 2) 0) (get_or b.capacities d nothing) in
        kept-flat (directed (energies_of cs)) (λ d. is_some (get_or cs d None)) g (from_all _ 0 8 (λ d h l. published-as d (omega arith)))
        ∙ eight (g 0) (g 1) (g 2) (g 3) (g 4) (g 5) (g 6) (g 7)

-- Offers and executions

module _ (s : Session) (b : B.Book) (e : s ≡ I.image b) (closed : b.closed ≡ true) (hs : List Own) (holders : Holders s hs) (k : ℕ) (h : Hour) (t : Built s hs k h) where
  energy-as : (i : ℕ) → i < length b.standing → energy_on s.energies k i ≡ L.energy_at (standing b i) (suc k)
  unfolding energy_on L.energy_at
  energy-as i l = ap (λ (g : Energies). get_or g.energies k 0) (energies-at s b e i l) ∙ sym (hourly-suc (standing b i).energies k)

  price-as : (i : ℕ) → i < length b.standing → price_on s.energies k i ≡ hourly (standing b i).prices (suc k)
  unfolding price_on
  price-as i l = ap (λ (g : Energies). get_or g.prices k 0) (energies-at s b e i l) ∙ sym (hourly-suc (standing b i).prices k)

  pub offers-as : map fresh_in (listed h.offers) ≡ map (R.offer_at b.units b.losses (suc k)) (keep (chosen_in b false k) b.standing)
  unfolding R.offer_at
  offers-as =
      ap (map fresh_in) t.offers.0
      ∙ (map-map fresh_in (offer_on s hs k) _
      ∙ gathered s b e closed false k (R.offer_at b.units b.losses (suc k)) (λ i. fresh_in (offer_on s hs k i)) (length hs) (holders-long s b e hs holders)
      (λ i l. offer-same (holder-at s b e hs holders i l) (price-as i l) (energy-as i l)))

  pub executions-as : map execution_in (listed h.executions) ≡ map (R.execution_at b.units b.losses (suc k)) (keep (chosen_in b true k) b.standing)
  unfolding R.execution_at
  executions-as =
      ap (map execution_in) t.executions.0
      ∙ (map-map execution_in (execution_on s hs k) _
      ∙ gathered s b e closed true k (R.execution_at b.units b.losses (suc k)) (λ i. execution_in (execution_on s hs k i)) (length hs) (holders-long s b e hs holders)
      (λ i l. execution-same (holder-at s b e hs holders i l) (energy-as i l)))

  -- the hour is the book's
  pub hour-as : length b.capacities ≡ 8 → hour_in h ≡ R.hour_of_day b (C.accepted_at b) (suc k)
  unfolding hour_in R.hour_of_day
  hour-as g =
      hour-same
      (capacities-said s b e g k h.capacities t.capacities)
      (offers-as ∙ ap (map (R.offer_at b.units b.losses (suc k))) (sym (named-offers b k)))
      (executions-as ∙ ap (map (R.execution_at b.units b.losses (suc k))) (sym (named-executions b k)))
