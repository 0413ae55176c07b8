-- What the walks along the orders compute, and what a match is.
use Rattle.std.specs.Prelude.{ℕ, ◌-◌, ◌≤◌, ◌≡◌, min, Bool, true, false, List, [], ◌∷◌, map, set}
use Rattle.rules.specs.Lists.{All, Pairwise}
use Rattle.rules.specs.Match.{Offer, Place, with_energies, lay_out, volume, match_all}
use Rattle.hour_match.specs.Orders.{nth}

-- the offers at some indices
unfoldable pub named : List Offer → List ℕ → List Offer
named os is = map (nth os) is

-- the same, laid out one tenth of MWh at a time
unfoldable pub laid : List Offer → List ℕ → List Place
laid os is = lay_out (named os is)

-- "sales by rising price, purchases by falling price": p may stand before q
unfoldable pub Ahead : Bool → ℕ → ℕ → Type 0
Ahead false p q = p ≤ q
Ahead true p q = q ≤ p

-- along some indices each price may stand before every later one
unfoldable pub Follows : Bool → List Offer → List ℕ → Type 0
Follows side os is = Pairwise (λ o p. Ahead side o.price p.price) (named os is)

-- v tenths handed along the offers at some indices
unfoldable pub fill_on : ℕ → List ℕ → List Offer → List Offer
fill_on v [] os = os
fill_on v (i ∷ is) os =
    let o = nth os i in fill_on (v - o.offered) is (set os i (with_energies o.offered (min v o.offered) o))

-- `after` is the match of some offers, v its volume
pub record Matched (before after : List Offer) (v : ℕ) : Type 0 where
  pub offers : after ≡ match_all before
  pub traded : v ≡ volume before
  pub within : All (λ o. o.matched ≤ o.offered) after
