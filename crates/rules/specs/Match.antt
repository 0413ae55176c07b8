-- "Match": an hour's offers laid out one tenth of MWh at a time. K2: "the match itself stays in energies", so no definition here reads a loss.
use Rattle.std.specs.Prelude.{ℕ, zero, suc, ◌+◌, Bool, true, false, cond, ◌&&◌, ◌||◌, List, [], ◌∷◌, ◌++◌, map, leb, ltb, eqb, take, get_or, replicate}
use Rattle.std.specs.Bool.{beq}
use Rattle.rules.specs.Lists.{keep}

-- Whose energy it is: an accepted lodgement's number, its unit's number, border, side and legacy mark, and the unit's loss
-- (`unit_loss` of Units.antt).
pub record Holder : Type 0 where
  pub number : ℕ
  pub unit : ℕ
  pub border : ℕ
  pub purchase : Bool
  pub legacy : Bool
  pub loss : ℕ

-- An accepted offer in one hour: what is still offered, and what is matched of it.
pub record Offer : Type 0 where
  pub holder : Holder
  pub price : ℕ
  pub offered : ℕ
  pub matched : ℕ

unfoldable pub with_energies : ℕ → ℕ → Offer → Offer
with_energies offered matched o = record { holder = o.holder; price = o.price; offered = offered; matched = matched }

-- "sales by rising price, purchases by falling price": a's price goes before b's; `side` is true for purchases
unfoldable pub better_price : Bool → Offer → Offer → Bool
better_price false a b = ltb a.price b.price
better_price true a b = ltb b.price a.price

-- "equal prices by lower lodging number": a stands before b
unfoldable pub stands_before : Bool → Offer → Offer → Bool
stands_before side a b = better_price side a b || (eqb a.price b.price && ltb a.holder.number b.holder.number)

unfoldable pub insert_by : (Offer → Offer → Bool) → Offer → List Offer → List Offer
insert_by f o [] = o ∷ []
insert_by f o (x ∷ xs) = cond (f o x) (o ∷ x ∷ xs) (x ∷ insert_by f o xs)

unfoldable pub sort_by : (Offer → Offer → Bool) → List Offer → List Offer
sort_by f [] = []
sort_by f (o ∷ os) = insert_by f o (sort_by f os)

-- one side's offers in their order; `side` is true for purchases
unfoldable pub ordered : Bool → List Offer → List Offer
ordered side os = sort_by (stands_before side) (keep (λ o. beq o.holder.purchase side) os)

-- One tenth of MWh that is laid out: whose, and at what price. ("Place" is document 01's term.)
pub record Place : Type 0 where
  pub number : ℕ
  pub price : ℕ

abbrev pub place_of : Offer → Place
place_of o = record { number = o.holder.number; price = o.price }

-- "laid out one tenth of MWh at a time"
unfoldable pub lay_out : List Offer → List Place
lay_out [] = []
lay_out (o ∷ os) = replicate o.offered (place_of o) ++ lay_out os

unfoldable pub places : Bool → List Offer → List Place
places side os = lay_out (ordered side os)

-- "the count of places where the sale price is not above the purchase price"
unfoldable pub meeting : List Place → List Place → ℕ
meeting [] ps = 0
meeting (s ∷ ss) [] = 0
meeting (s ∷ ss) (p ∷ ps) = cond (leb s.price p.price) 1 0 + meeting ss ps

-- "V is the count of places where the sale price is not above the purchase price"
unfoldable pub volume : List Offer → ℕ
volume os = meeting (places false os) (places true os)

-- how many of the places are those of a lodging number
unfoldable pub places_of : ℕ → List Place → ℕ
places_of n [] = 0
places_of n (p ∷ ps) = cond (eqb p.number n) 1 0 + places_of n ps

-- "the first V on each side are matched": how much of an offer is
unfoldable pub matched_of : List Offer → Offer → ℕ
matched_of os o = places_of o.holder.number (take (volume os) (places o.holder.purchase os))

-- the match: each offer with what is matched of it
unfoldable pub match_all : List Offer → List Offer
match_all os = map (λ o. with_energies o.offered (matched_of os o) o) os

-- the price of the place with this number, counted from 1; 0 of place 0
unfoldable pub place_price : ℕ → List Place → ℕ
place_price zero ps = 0
place_price (suc k) ps = get_or (map (λ p. p.price) ps) k 0

-- "The hour's price is that of sale place V, or 0 when V is 0."
unfoldable pub hour_price : List Offer → ℕ
hour_price os = place_price (volume os) (places false os)

unfoldable pub unfold_match : Unit {0}
unfolding with_energies better_price stands_before insert_by sort_by ordered lay_out places meeting volume places_of matched_of match_all place_price hour_price
unfold_match = tt
