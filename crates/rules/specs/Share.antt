-- "Share": taking from several amounts pro rata. K2: "Share of an excess among exports" is of border figures. ("Share" is document 01's term.)
use Rattle.std.specs.Prelude.{ℕ, zero, suc, ◌*◌, ◌-◌, ◌/◌, List, [], ◌∷◌, map}
use Rattle.rules.specs.Lists.{sum, add_each}

-- "each loses R × m / G rounded down". Where G is 0 each m is 0: "G 0 loses nothing".
unfoldable pub pro_rata : ℕ → ℕ → ℕ → ℕ
pro_rata R G m = R * m / G

-- "the leftover units go out one each to the lowest lodging numbers with m above 0, and each hand-out leaves the rest to
-- the same rule over the higher numbers": k units over the amounts, by rising number
unfoldable pub hand_out : ℕ → List ℕ → List ℕ
hand_out k [] = []
hand_out zero (m ∷ ms) = 0 ∷ hand_out zero ms
hand_out (suc k) (zero ∷ ms) = 0 ∷ hand_out (suc k) ms
hand_out (suc k) (suc m ∷ ms) = 1 ∷ hand_out k ms

-- "To take R from amounts m summing to G": what each of the amounts, by rising lodging number, loses
unfoldable pub share : ℕ → List ℕ → List ℕ
share R ms =
    let floors = map (pro_rata R (sum ms)) ms in
    add_each floors (hand_out (R - sum floors) ms)

unfoldable pub unfold_share : Unit {0}
unfolding pro_rata hand_out share
unfold_share = tt
