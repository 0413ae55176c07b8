-- An hour's energy and price.
use Rattle.std.specs.Prelude.{ℕ, Bool, cond, not, ◌||◌, eqb, ltb}
use Rattle.rules.specs.Message.{top_price}

-- an energy or a price that `bad_hour` refuses, of an hour that is named or not, energies up to `top`
unfoldable pub bad_slot : ℕ → Bool → Bool → ℕ → ℕ → Bool
bad_slot top execution named e p =
    cond named
    (eqb e 0 || ltb top e || ltb (top_price execution) p)
    (not (eqb e 0) || not (eqb p 0))
