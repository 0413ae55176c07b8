-- Judging a message's fields: each way out.
use Prim.Native.Nat.{ℕ, ◌<◌}
use mathlib.Core.Path.{◌≡◌, refl, sym, ap}
use mathlib.Core.Bool.{Bool, true, false, not, ◌&&◌, ◌||◌, false≢true}
use lib.Dec.{leb}
use native.Mathlib.Omega.{arith}
use borrow.Author.Tests.{leb-false}
use Rattle.std.specs.Prelude.{Some, None, is_none, Ok, Err}
use Rattle.std.specs.declared.option.Option.{Option}
use Rattle.std.specs.declared.result.Result.{Result}
use Rattle.rules.specs.declared.row.Row as Code
use Rattle.rules.specs.declared.row.Row.TheVariants.{Hour, Range, Full}
use Rattle.rules.specs.Refusals.{row, first_row}
use Rattle.rules.specs.Message.{bad_map, bad_fields}
use Rattle.rules.specs.Lodging as L
use Rattle.rules.specs.Book.{Book}
use Rattle.rules.specs.DayBook as D
use Rattle.rules.proofs.BoolLaws.{by_bool, neither}
use Rattle.message.specs.View.{fields_in}
use Rattle.message.specs.declared.Fields.{Fields}
use Rattle.session.specs.Image.{image, key_in}
use Rattle.session.specs.Parts.{Within}
use Rattle.session.specs.declared.Session.{Session}
use Rattle.session.specs.declared.Holder.{Holder}
use Rattle.session.specs.declared.Key.{Key}
use Rattle.session.proofs.ImageLaws.{hours-as, last_as, standing-as}
use Rattle.lodge_keys.specs.Keys.{key_for, key_index, left_of}
use Rattle.lodge_keys.proofs.KeyLaws.{stands-none, stands-some}
use Rattle.lodge_keys.specs.Holding.{Holding, NotHolding}
use Rattle.lodge_judge.specs.Judging.{Room, full_at, field_rows, GivesRow}

-- Row 9

module _ (s : Session) (k : Key) where
  abbrev full : Option ℕ → Bool
  full o = full_at s.standing s.last o

  stands-as : (b : Book) → s ≡ image b → (o : Option ℕ) → key_index s k ≡ o → not (L.stands b.standing (key_in k)) ≡ is_none o
  stands-as b e None q = ap not (stands-none s b e k q)
  stands-as b e (Some p) q = ap not (stands-some s b e k p q).0

  pub full-as : (b : Book) → s ≡ image b → D.full b (key_in k) ≡ full (key_index s k)
  unfolding D.full full_at
  full-as b e = rw (stands-as b e (key_index s k) refl, standing-as s b e, last_as s b e)

  -- an index and a number are free
  pub room : Within s → full (key_index s k) ≡ false → Room s k
  unfolding full_at
  room w h =
      let parts = neither (leb 128 s.standing && is_none (key_index s k)) (leb 65535 s.last) h in
      record { within = w; index = left (key_index s k) parts.0; number = leb-false 65535 s.last parts.1 }
    where
      left : (o : Option ℕ) → (leb 128 s.standing && is_none o) ≡ false → left_of s.standing o < 128
      left None q = by_bool (leb 128 s.standing) (λ t. absurd (false≢true (sym (rw t at q)))) (λ t. leb-false 128 s.standing t)
      left (Some p) q = omega (arith, w.standing)

-- Rows 4, 5, 6, 9, and none of them

module _ (s : Session) (top : ℕ) (m : Fields) where
  abbrev bad4 : Bool
  bad4 = bad_map m.map || L.names_beyond s.hours m.map

  abbrev Gives : Result Holder Code.Row → Type 0
  Gives r = GivesRow s top m r

  pub fields-4 : bad4 ≡ true → Gives (Err Hour)
  unfolding field_rows row first_row
  fields-4 h b e rest = rw (hours-as s b e, h)

  module _ (h : bad4 ≡ false) where
    pub fields-5 : bad_fields top (fields_in m) ≡ true → Gives (Err Range)
    unfolding field_rows row first_row
    fields-5 k b e rest = rw (hours-as s b e, h, k)

    module _ (f : bad_fields top (fields_in m) ≡ false) where
      pub fields-6 : (r : Code.Row) → NotHolding s (key_for m) r → Gives (Err r)
      unfolding field_rows row first_row
      fields-6 r x b e rest = rw (hours-as s b e, h, f, x.bad b e, x.row)

      pub fields-9 : (a : Holder) → Holding s (key_for m) a → full s (key_for m) (key_index s (key_for m)) ≡ true → Gives (Err Full)
      unfolding field_rows row first_row
      fields-9 a x y b e rest = rw (hours-as s b e, h, f, x.good b e, full-as s (key_for m) b e, y)

      pub fields-left : (a : Holder) → Holding s (key_for m) a → full s (key_for m) (key_index s (key_for m)) ≡ false → Gives (Ok a)
      unfolding field_rows row first_row
      fields-left a x y b e rest = rw (hours-as s b e, h, f, x.good b e, full-as s (key_for m) b e, y)
