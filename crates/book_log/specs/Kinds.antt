-- The kinds of records.
use Rattle.std.specs.Prelude.{ℕ, ◌≡◌, ◌≤◌, ◌<◌, Bool, true, eqb, Result, MatchResult}
use Rattle.book_log.specs.declared.Kind.{Kind}
use Rattle.book_log.specs.declared.Kind.TheVariants.{Register, Capacity, Available, Lodge, Annul, Close, Clear, Rights, RegisterMarked, Loss}
use Rattle.book_log.specs.declared.UnknownKind.{UnknownKind}

abbrev pub number_of : Kind → ℕ
number_of = elim [
  | Register ↦ 1
  | Capacity ↦ 2
  | Available ↦ 3
  | Lodge ↦ 4
  | Annul ↦ 5
  | Close ↦ 6
  | Clear ↦ 7
  | Rights ↦ 8
  | RegisterMarked ↦ 9
  | Loss ↦ 10
]

-- the kind with this number, or the number where no kind has it
abbrev pub Decodes : ℕ → Result Kind UnknownKind → Type 0
Decodes n r = MatchResult r (λ kind. number_of kind ≡ n) (λ e. (e.0 ≡ n) × (1 ≤ n → 10 < n))

-- whether a record of this kind has so many bytes
abbrev pub has_size : Kind → ℕ → Bool
has_size = elim [
  | Register ↦ λ size. eqb size 18
  | Capacity ↦ λ size. eqb size 840
  | Available ↦ λ size. eqb size 108
  | Lodge ↦ λ size. true
  | Annul ↦ λ size. eqb size 10
  | Close ↦ λ size. eqb size 0
  | Clear ↦ λ size. eqb size 0
  | Rights ↦ λ size. eqb size 109
  | RegisterMarked ↦ λ size. eqb size 18
  | Loss ↦ λ size. eqb size 8
]
