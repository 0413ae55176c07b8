-- K2's losses by the date and the calls: when one is accepted, that each border has what was last accepted for it, and what then counts there.
use Rattle.std.specs.Prelude.{ℕ, ◌≤◌, ◌≡◌, ◌↔◌, true, false, cond, List, [], ◌∷◌, eqb}
use Rattle.std.proofs.Math.Option.{none}
use Rattle.rules.specs.Refusals.{first_row}
use Rattle.rules.specs.Hours.{Date}
use Rattle.rules.specs.Units.{loss_of}
use Rattle.rules.specs.Lodging.{Lodgement}
use Rattle.rules.specs.Book.{Book}
use Rattle.rules.specs.Match.{Holder}
use Rattle.rules.specs.Borders.{runs, border_figure, at_border}
use Rattle.rules.specs.Clearing.{holder_of}
use Rattle.rules.specs.DayBook.{Call, register, capacity, available, rights, loss, lodge, annul, close, clear, rows_of, effect, after, opening}
use Rattle.rules.specs.Rights.{unless_refused}

-- "Each border 1 to 4 gets a loss l, 0 to 2,000, in hundredths of a percent, set before closing": a call that sets one is accepted exactly then
-- (`loss-accepted` of proofs/LossLaws.antt)
abbrev pub LossAccepted : Type 0
LossAccepted = (b : Book) (border l : ℕ) → (first_row (rows_of b (loss border l)) ≡ none) ↔ ((b.closed ≡ false) × (1 ≤ border) × (border ≤ 4) × (l ≤ 2000))

-- "Each border 1 to 4 gets a loss l": the loss of a border after an accepted call, by the one before it; a later loss replaces an earlier
unfoldable pub loss_after : ℕ → Call → ℕ → ℕ
loss_after border (loss k l) last = cond (eqb k border) l last
loss_after border (register u) last = last
loss_after border (capacity cs) last = last
loss_after border (available n es) last = last
loss_after border (rights agent purchase es) last = last
loss_after border (lodge bytes) last = last
loss_after border (annul k) last = last
loss_after border close last = last
loss_after border clear last = last

-- the last loss of a border that was accepted along a list of calls from a book, `last` before it
unfoldable pub last_loss : ℕ → Book → List Call → ℕ → ℕ
last_loss border b [] last = last
last_loss border b (c ∷ cs) last = last_loss border (effect b c).book cs (unless_refused (first_row (rows_of b c)) (loss_after border c last) last)

-- after every list of calls; "it starts at 0" (`losses-last` of proofs/LossLaws.antt)
abbrev pub LossesLast : Type 0
LossesLast = (d : Date) (cs : List Call) (border : ℕ) → loss_of (after (opening d).book cs).losses border ≡ last_loss border (opening d).book cs 0

-- What an energy of a holder counts for at a border.
pub record Counted (losses : List ℕ) (x : Holder) (border e : ℕ) : Type 0 where
  -- "A lodgement's export of e counts at the border as e × 10,000 / (10,000 + l) rounded up"
  pub exported : runs border true x ≡ true → at_border x e ≡ border_figure (loss_of losses border) e
  -- an import counts for itself
  pub imported : runs border false x ≡ true → at_border x e ≡ e
  -- and so does domestic energy
  pub domestic : x.border ≡ 0 → at_border x e ≡ e

-- of each lodgement, after every list of calls: by the losses last accepted (`lodgements-counted` of proofs/LossLaws.antt)
abbrev pub LodgementsCounted : Type 0
LodgementsCounted = (d : Date) (cs : List Call) (l : Lodgement) (border e : ℕ) → let b = after (opening d).book cs in
    Counted b.losses (holder_of b.units b.losses l) border e
