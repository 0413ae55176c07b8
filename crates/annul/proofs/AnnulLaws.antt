-- Annulling: each way out.
use Prim.Native.Nat.{ℕ, ◌-◌, ◌<◌}
use mathlib.Core.Path.{◌≡◌, refl, sym}
use mathlib.Core.Bool.{Bool, true, false}
use Rattle.std.specs.Prelude.{Some, None, Ok, Err, ok_or}
use Rattle.std.specs.declared.option.Option.{Option}
use Rattle.std.specs.declared.result.Result.{Result}
use Rattle.rules.specs.declared.row.Row as Code
use Rattle.rules.specs.declared.row.Row.TheVariants.{Gate, Range, Absent}
use Rattle.rules.specs.Refusals.{row, first_row}
use Rattle.rules.specs.Message.{bad_key}
use Rattle.rules.specs.DayBook as D
use Rattle.session.specs.Image.{key_in, no_lodgement, no_energies}
use Rattle.session_changes.specs.Changes.{standing_with}
use Rattle.answer.specs.Told.{told, is_refusal, accepted}
use Rattle.session.specs.Parts.{JudgesRow, given_by, Entered}
use Rattle.session.specs.declared.Key.{Key}
use Rattle.session.specs.declared.Holder.{Holder}
use Rattle.session.specs.declared.Session.{Session}
use Rattle.session.proofs.ImageLaws.{closed-as}
use Rattle.session.proofs.StepLaws.{open_row}
use Rattle.lodge_keys.specs.Keys.{key_index}
use Rattle.lodge_keys.specs.Holding.{Holding, NotHolding}
use Rattle.lodge_keys.proofs.KeyLaws.{stands-none, stands-some}
use Rattle.lodge_keys.proofs.TakenLaws.{taken-image}

module _ (s : Session) (k : Key) where
  abbrev call : D.Call
  call = D.annul (key_in k)

  abbrev ByTable : Result ℕ Code.Row → Type 0
  ByTable j = JudgesRow s call j

  abbrev bad : Bool
  bad = bad_key (key_in k)

  pub annul-2 : s.closed ≡ true → ByTable (Err Gate)
  unfolding D.rows_of D.gate_row D.call_rows D.change_row row first_row given_by
  annul-2 h b e = rw (closed-as s b e, h)

  module _ (h : s.closed ≡ false) where
    pub annul-5 : bad ≡ true → ByTable (Err Range)
    unfolding D.rows_of D.gate_row D.call_rows D.change_row row first_row given_by
    annul-5 t b e = rw (t, closed-as s b e, h)

    module _ (t : bad ≡ false) where
      pub annul-6 : (r : Code.Row) → NotHolding s k r → ByTable (Err r)
      unfolding D.rows_of D.gate_row D.call_rows D.change_row row first_row given_by
      annul-6 r x b e = rw (t, x.bad b e, x.row, closed-as s b e, h)

      module _ {a : Holder} (x : Holding s k a) where
        annul-13 : key_index s k ≡ None → ByTable (Err Absent)
        unfolding D.rows_of D.gate_row D.call_rows D.change_row row first_row given_by
        annul-13 n b e = rw (t, x.good b e, stands-none s b e k n, closed-as s b e, h)

        annul-0 : (p : ℕ) → key_index s k ≡ Some p → ByTable (Ok p)
        unfolding D.rows_of D.gate_row D.call_rows D.change_row row first_row given_by
        annul-0 p n b e = rw (t, x.good b e, (stands-some s b e k p n).0, closed-as s b e, h)

        pub annul-last : (o : Option ℕ) → key_index s k ≡ o → ByTable (ok_or o Absent)
        annul-last None n = annul-13 n
        annul-last (Some p) n = annul-0 p n

  -- "annulling drops the key's lodgement"
  module _ (p : ℕ) (found : key_index s k ≡ Some p) where
    pub annulled : s.standing - 1 < 128 → Entered s call (record {
      session = standing_with s (record { from = p; to = s.standing - 1; at = s.standing - 1; lodgement = no_lodgement; energies = no_energies; standing = s.standing - 1; last = s.last });
      answer = accepted;
    })
    unfolding told is_refusal D.reply D.rows_of D.gate_row D.call_rows D.applied
    annulled free = record {
      book = λ b sound o e. record { answer = refl; session = taken-image s k (Some p) (s.standing - 1) (sym found) refl free b sound (open_row b _ o) e };
      fine = refl;
    }
