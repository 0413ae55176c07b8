-- The refusal of clearing by the session's stage.
use mathlib.Core.Path.{◌≡◌}
use mathlib.Core.Bool.{true, false}
use Rattle.std.specs.Prelude.{Ok, Err}
use Rattle.std.specs.declared.result.Result.{Result}
use Rattle.rules.specs.Refusals.{row, first_row}
use Rattle.rules.specs.DayBook as D
use Rattle.rules.specs.declared.row.Row as Code
use Rattle.rules.specs.declared.row.Row.TheVariants.{Gate}
use Rattle.rules.proofs.BoolLaws.{by_bool}
use Rattle.session.specs.declared.Session.{Session}
use Rattle.session.specs.Parts.{JudgesRow, given_by}
use Rattle.session.proofs.ImageLaws.{closed-as, cleared-as}

module _ (s : Session) where
  abbrev ByTable : Result (Unit {0}) Code.Row → Type 0
  ByTable j = JudgesRow s D.clear j

  -- "clearing [..] before closing"
  pub clear-early : s.closed ≡ false → ByTable (Err Gate)
  unfolding D.rows_of D.gate_row D.call_rows row first_row given_by
  clear-early h b e = rw (closed-as s b e, h)

  -- "clearing twice"
  pub clear-twice : s.cleared ≡ true → ByTable (Err Gate)
  unfolding D.rows_of D.gate_row D.call_rows row first_row given_by
  clear-twice k b e = by_bool b.closed (λ t. rw (t, cleared-as s b e, k)) (λ t. rw t)

  pub clear-0 : s.closed ≡ true → s.cleared ≡ false → ByTable (Ok tt)
  unfolding D.rows_of D.gate_row D.call_rows row first_row given_by
  clear-0 h k b e = rw (closed-as s b e, h, cleared-as s b e, k)
