-- The named hours one after the other: their slots are taken and put into two lists.
use Prim.Native.Nat.{ℕ, zero, suc, ◌-◌, ◌^◌, ◌<◌}
use mathlib.Core.Path.{◌≡◌, refl, ◌∙◌}
use mathlib.Core.Bool.{Bool}
use mathlib.Core.List.{List, [], ◌∷◌, ◌++◌}
use native.Mathlib.Omega.{arith}
use lib.ListN.{length, replicate, length-set}
use lib.ListN.{set as set_at}
use Rattle.rules.specs.Message.{bits, bits_of, price_width, hour_bits}
use Rattle.rules.proofs.BitLaws.{length-bits}
use Rattle.message.specs.Hours.{FirstHour}
use Rattle.message.proofs.HourLaws.{first-less}
use Rattle.message_reader.proofs.FillLaws.{here, gone, bits-zero}
use Rattle.message_cursor.specs.declared.Reader.{Reader}
use Rattle.message_cursor.specs.Taking.{Takes, unset, set, SlotsTaken, none, more}

-- The slots of a map's hours, from bit `at` to `end`, put into the two lists that stand before two others: an hour that is not set stays
pub data Into (bs : List ℕ) (w : ℕ) (x : Bool) : List ℕ → ℕ → List ℕ → List ℕ → List ℕ → List ℕ → ℕ → Type 0 where
  empty : {at : ℕ} → Into bs w x [] at [] [] [] [] at
  stays : {at e p end : ℕ} {map es ps fs qs : List ℕ} → Into bs w x map at es ps fs qs end → Into bs w x (0 ∷ map) at (e ∷ es) (p ∷ ps) (e ∷ fs) (p ∷ qs) end
  put : {b at d q e p middle next end : ℕ} {map es ps fs qs : List ℕ} → Takes bs at w e middle → Takes bs middle (price_width x) p next
      → Into bs w x map next es ps fs qs end → Into bs w x (suc b ∷ map) at (d ∷ es) (q ∷ ps) (e ∷ fs) (p ∷ qs) end

module _ (bs : List ℕ) (w : ℕ) (x : Bool) where
  -- into lists of zeros they are the slots
  into_blank : (map : List ℕ) {fs qs : List ℕ} {at end : ℕ} → Into bs w x map at (replicate (length map) 0) (replicate (length map) 0) fs qs end → SlotsTaken bs w x map at fs qs end
  into_blank [] empty = none
  into_blank (zero ∷ map) (stays d) = more unset (into_blank map d)
  into_blank (suc b ∷ map) (put s t d) = more (set s t) (into_blank map d)

  -- no hour is set
  into_none : (es ps : List ℕ) {at : ℕ} → length es ≡ length ps → Into bs w x (replicate (length es) 0) at es ps es ps at
  into_none [] [] h = empty
  into_none [] (p ∷ ps) h = absurd (omega arith)
  into_none (e ∷ es) [] h = absurd (omega arith)
  into_none (e ∷ es) (p ∷ ps) h = stays (into_none es ps (omega arith))

  -- the first set hour is taken, and the rest goes on without it
  into_first : (k : ℕ) (map es ps : List ℕ) {fs qs : List ℕ} {at e p middle next end : ℕ} → Takes bs at w e middle → Takes bs middle (price_width x) p next
      → k < length es → k < length ps
      → Into bs w x (replicate k 0 ++ (0 ∷ map)) next (set_at es k e) (set_at ps k p) fs qs end → Into bs w x (replicate k 0 ++ (1 ∷ map)) at es ps fs qs end
  into_first k map [] ps s t h l d = absurd (omega arith)
  into_first k map (a ∷ es) [] s t h l d = absurd (omega arith)
  into_first zero map (a ∷ es) (b ∷ ps) s t h l (stays d) = put s t d
  into_first (suc k) map (a ∷ es) (b ∷ ps) s t h l (stays d) = stays (into_first k map es ps s t (omega arith) (omega arith) d)

-- form 1, by a reader that stands at the next named hour's slot: whatever is taken of the hours of `rest` from there completes the slots
pub record Midway (old : Reader) (x : Bool) (map : ℕ) (reader : Reader) (energies prices : List ℕ) (rest : ℕ) : Type 0 where
  pub same : reader.message ≡ old.message
  pub small : rest < 2 ^ 25
  pub energies-long : length energies ≡ 25
  pub prices-long : length prices ≡ 25
  pub whole : (fs qs : List ℕ) (end : ℕ) → Into (bits_of old.message.now) 17 x (hour_bits rest) reader.at energies prices fs qs end
      → SlotsTaken (bits_of old.message.now) 17 x (hour_bits map) old.at fs qs end

module _ (old : Reader) (x : Bool) (map : ℕ) where
  pub midway_start : map < 2 ^ 25 → Midway old x map old (replicate 25 0) (replicate 25 0) map
  unfolding hour_bits
  midway_start h = record {
    same = refl;
    small = h;
    energies-long = refl;
    prices-long = refl;
    whole = λ fs qs end d. into_blank _ 17 x (bits 25 map) (rw (length-bits 25 map) d);
  }

  module _ {reader : Reader} {energies prices : List ℕ} {rest : ℕ} (i : Midway old x map reader energies prices rest) where
    pub midway_next : {e p middle h rest' : ℕ} {after : Reader} → FirstHour rest h rest' → after.message ≡ old.message
        → Takes (bits_of old.message.now) reader.at 17 e middle → Takes (bits_of old.message.now) middle (price_width x) p after.at
        → Midway old x map after (set_at energies h e) (set_at prices h p) rest'
    midway_next {e} {p} {h} {rest'} t m s u = record {
      same = m;
      small = omega (arith, i.small, first-less rest h rest' t);
      energies-long = length-set energies h e ∙ i.energies-long;
      prices-long = length-set prices h p ∙ i.prices-long;
      whole = λ fs qs end d. i.whole fs qs end (rw (here t)
          (into_first _ 17 x h (bits (24 - h) rest') energies prices s u (omega (arith, t.within, i.energies-long)) (omega (arith, t.within, i.prices-long)) (rw (gone t) at d)));
    }

    pub midway_end : rest ≡ 0 → SlotsTaken (bits_of old.message.now) 17 x (hour_bits map) old.at energies prices reader.at
    unfolding hour_bits
    midway_end z = i.whole energies prices reader.at
        (rw (z, bits-zero) (rw i.energies-long at (into_none (bits_of old.message.now) 17 x energies prices {at = reader.at} (omega (arith, i.energies-long, i.prices-long)))))
