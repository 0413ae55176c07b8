-- What callers read of sound offers and executions.
use Rattle.std.proofs.Common.{ℕ, zero, suc, ◌<◌, List, [], ◌∷◌, map, length, get_or, arith}
use Rattle.rules.specs.Lists.{All, none, more}
use Rattle.rules.specs.Match.{Offer as RuleOffer}
use Rattle.rules.proofs.ListLaws.{all_map}
use Rattle.hour_offers.specs.declared.Offer.{Offer}
use Rattle.hour_offers.specs.View.{offer_in, offers_in}
use Rattle.hour_offers.specs.Sound.{InRange, Sound, SoundUnmatched}

-- a fact about all that are read is one about the one at an index
pub all-read : {A B : Type 0} {P : B → Type 0} (f : A → B) (xs : List A) (i : ℕ) (d : A) → All P (map f xs) → i < length xs → P (f (get_or xs i d))
all-read f [] i d none h = absurd (omega arith)
all-read f (x ∷ xs) zero d (more p t) h = p
all-read f (x ∷ xs) (suc i) d (more p t) h = all-read f xs i d t (omega arith)

pub offer-in-range : (os : List Offer) (i : ℕ) (d : Offer) → All InRange (offers_in os) → i < length os → InRange (offer_in (get_or os i d))
offer-in-range os i d a h = all-read offer_in os i d a h

-- what is sound is so before its match
pub unmatched-of : {os : List RuleOffer} → Sound os → SoundUnmatched os
unmatched-of s = record { few = s.few; rising = s.rising; in_range = all_map (λ o h. record { border = h.border; price = h.price; offered = h.offered }) s.in_range }
