-- An hour of the day book is one that the laws of clearing are about, and its figures are as demand 3 says.
use Prim.Native.Nat.{ℕ, ◌<◌}
use mathlib.Core.Path.{◌≡◌, refl}
use mathlib.Core.Bool.{Bool, true, false, and-false}
use mathlib.Core.List.{List, ◌++◌}
use mathlib.Core.Option.{some, none as nothing}
use native.Mathlib.Omega.{arith}
use lib.Dec.{eqb, lit<}
use borrow.Author.Tests.{ne_eqb}
use Rattle.rules.specs.Lists.{All, none, more}
use Rattle.rules.specs.Units.{Published, Capacities, capacity_of}
use Rattle.rules.specs.Lodging.{Lodgement}
use Rattle.rules.specs.Book.{Book}
use Rattle.rules.specs.Closing.{accepted_at}
use Rattle.rules.specs.Borders.{Directed}
pub use Rattle.rules.specs.Sound.{Numbered}
use Rattle.rules.specs.Clearing.{holder_of, offer_at, published, border_capacities, capacities_at, hour_of_day, figures_at}
use Rattle.rules.proofs.ListLaws.{all_map, all_append}
use Rattle.rules.proofs.ElementLaws.{empty, ahead, pairwise-keep, pairwise_map, pairwise_append, across}
use Rattle.rules.proofs.DirectionLaws.{same_direction, Once}
use Rattle.rules.proofs.HourLaws.{Sound, HourCleared, hour-cleared}

-- Capacities: each border and direction at most once

module _ (h border : ℕ) (export : Bool) where
  -- one direction stands at most once
  published-once : (p : Published) → Once (published h border export p)
  unfolding published
  published-once nothing = empty
  published-once (some es) = ahead none empty

  -- and is that of its border
  published-at : (p : Published) → All (λ d. (d.border ≡ border) × (d.export ≡ export)) (published h border export p)
  unfolding published
  published-at nothing = none
  published-at (some es) = more (refl, refl) none

module _ (cs : Capacities) (h : ℕ) where
  -- a border's directions are of that border
  border-at : (border : ℕ) → All (λ d. d.border ≡ border) (border_capacities cs h border)
  unfolding border_capacities
  border-at border =
      all_append (all_map (λ d k. k.0) (published-at h border true (capacity_of cs border true)))
      (all_map (λ d k. k.0) (published-at h border false (capacity_of cs border false)))

  -- its two directions differ
  border-once : (border : ℕ) → Once (border_capacities cs h border)
  unfolding border_capacities same_direction
  border-once border =
      pairwise_append (across (λ c d p q. rw (p.1, q.1) (and-false (eqb c.border d.border)))
      (published-at h border true (capacity_of cs border true)) (published-at h border false (capacity_of cs border false)))
      (published-once h border true (capacity_of cs border true)) (published-once h border false (capacity_of cs border false))

  -- a border before those with higher numbers
  join : (border : ℕ) {ds : List Directed} → All (λ d. border < d.border) ds → Once ds → Once (border_capacities cs h border ++ ds)
  unfolding same_direction
  join border a k =
      pairwise_append (across (λ c d p q. rw (ne_eqb c.border d.border (λ e. omega arith))) (border-at border) a) (border-once border) k

  -- borders with higher numbers
  higher : (low border : ℕ) → low < border → All (λ d. low < d.border) (border_capacities cs h border)
  higher low border l = all_map (λ d e. rw e l) (border-at border)

  -- no border and direction is published twice
  pub capacities-once : Once (capacities_at cs h)
  unfolding capacities_at
  capacities-once =
      join 1 (all_append (higher 1 2 (lit< tt)) (all_append (higher 1 3 (lit< tt)) (higher 1 4 (lit< tt))))
      (join 2 (all_append (higher 2 3 (lit< tt)) (higher 2 4 (lit< tt))) (join 3 (higher 3 4 (lit< tt)) (border-once 4)))

-- an hour's offers have rising numbers, and its capacities stand once each
pub hour-sound : (b : Book) (accepted : List Lodgement) (h : ℕ) → Numbered accepted → Sound (hour_of_day b accepted h)
unfolding hour_of_day offer_at holder_of
hour-sound b accepted h n =
    record {
      rising = pairwise_map (offer_at b.units b.losses h) (λ k l r. r) (pairwise-keep _ (pairwise-keep _ n));
      once = capacities-once b.capacities h;
    }

-- the book's figures in an hour are as demand 3 says
pub figures-cleared : (b : Book) (h : ℕ) → Numbered b.standing → HourCleared (hour_of_day b (accepted_at b) h) (figures_at b h)
unfolding figures_at accepted_at
figures-cleared b h n = hour-cleared (hour_of_day b (accepted_at b) h) (hour-sound b (accepted_at b) h (pairwise-keep _ n))
