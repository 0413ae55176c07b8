-- The numbers of an answer's kinds.
use Rattle.std.specs.Prelude.{ℕ, ◌≡◌, List, [], ◌∷◌, Some, None, slice_get, MatchResult}
use Rattle.std.specs.declared.option.Option.{Option}
use Rattle.std.specs.declared.result.Result.{Result}
use Rattle.answer.specs.declared.UnknownKind.{UnknownKind}
use Rattle.answer.specs.declared.Kind.{Kind}
use Rattle.answer.specs.declared.Kind.TheVariants.{Accepted, Refused, Numbered, Steps, Hidden, Limit, Figure, Absent}

abbrev pub kind_number : Kind → ℕ
kind_number = elim [
  | Accepted ↦ 0
  | Refused ↦ 1
  | Numbered ↦ 2
  | Steps ↦ 3
  | Hidden ↦ 4
  | Limit ↦ 5
  | Figure ↦ 6
  | Absent ↦ 7
]

-- the kind of a number, if it is one's
abbrev pub kind_of : ℕ → Option Kind
kind_of n = slice_get (Accepted ∷ Refused ∷ Numbered ∷ Steps ∷ Hidden ∷ Limit ∷ Figure ∷ Absent ∷ []) n

-- the kind with this number, or the number where it is none's
abbrev pub KindOf : ℕ → Result Kind UnknownKind → Type 0
KindOf n r = MatchResult r (λ kind. kind_of n ≡ Some kind) (λ e. (e.0 ≡ n) × (kind_of n ≡ None))
