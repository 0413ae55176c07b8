-- The offers at a border: a step changes what these alone offer, and most offers are domestic.
use Rattle.std.specs.Prelude.{ℕ, suc, Bool, not, cond, List, [], ◌∷◌, eqb, set}
use Rattle.rules.specs.Lists.{keep}
use Rattle.rules.specs.Match.{Offer}

-- whether an offer is at a border; border 0 is the domestic one
unfoldable pub crosses : Offer → Bool
crosses o = not (eqb o.holder.border 0)

-- those of an hour
unfoldable pub abroad_of : List Offer → List Offer
abroad_of os = keep crosses os

-- their indices, where the first offer's is i
unfoldable pub places_from : ℕ → List Offer → List ℕ
places_from i [] = []
places_from i (o ∷ os) = cond (crosses o) (i ∷ places_from (suc i) os) (places_from (suc i) os)

-- some written at indices, one at each
unfoldable pub put_at : {A : Type 0} → List ℕ → List A → List A → List A
put_at [] xs os = os
put_at (i ∷ is) [] os = os
put_at (i ∷ is) (x ∷ xs) os = put_at is xs (set os i x)
