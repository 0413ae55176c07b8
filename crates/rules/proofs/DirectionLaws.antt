-- Directions of a border: when two are the same, and that an energy runs in one only.
use mathlib.Core.Path.{◌≡◌, sym, ◌∙◌}
use mathlib.Core.Bool.{Bool, true, false, ◌&&◌, beq}
use mathlib.Core.List.{List}
use lib.Dec.{eqb}
use borrow.Author.Tests.{eq-eqb, eqb-true}
use Rattle.rules.specs.Lists.{All, any}
use Rattle.rules.specs.Match.{Holder}
use Rattle.rules.specs.Borders.{Directed, runs}
use Rattle.rules.proofs.BoolLaws.{not-both, of-not, both, of-both, beq-true, of-beq}
use Rattle.rules.proofs.ListLaws.{all_map, of-any-false}
use Rattle.rules.proofs.ElementLaws.{Pairwise}

-- the same border and direction
unfoldable pub same_direction : Directed → Directed → Bool
same_direction c d = eqb c.border d.border && beq c.export d.export

-- each border and direction stands at most once
abbrev pub Once : List Directed → Type 0
Once cs = Pairwise (λ c d. same_direction c d ≡ false) cs

-- the same border, and the same direction
pub same_parts : (c d : Directed) → same_direction c d ≡ true → (c.border ≡ d.border) × (c.export ≡ d.export)
unfolding same_direction
same_parts c d h =
    let k = both (eqb c.border d.border) (beq c.export d.export) h in (eqb-true c.border d.border k.0, beq-true c.export d.export k.1)

-- an energy runs in a direction
abbrev pub runs_on : Directed → Holder → Bool
runs_on c x = runs c.border c.export x

-- what runs in two directions: they are the same
pub same_runs : (c d : Directed) (x : Holder) → runs_on c x ≡ true → runs_on d x ≡ true → same_direction c d ≡ true
unfolding runs same_direction
same_runs c d x h k =
    let a = both (eqb x.border c.border) (beq x.purchase c.export) h in
    let b = both (eqb x.border d.border) (beq x.purchase d.export) k in
    of-both (eq-eqb c.border d.border (sym (eqb-true _ _ a.0) ∙ eqb-true _ _ b.0))
    (of-beq c.export d.export (sym (beq-true x.purchase c.export a.1) ∙ beq-true x.purchase d.export b.1))

-- what runs in one does not run in another
pub runs-one : (c d : Directed) (x : Holder) → same_direction c d ≡ false → runs_on c x ≡ true → runs_on d x ≡ false
runs-one c d x n h = of-not (runs_on d x) (λ e. not-both (same_runs c d x h e) n)

-- a test that only what runs in a direction passes: what passes it in one passes it in none of the others
pub runs_none : {A : Type 0} (holder : A → Holder) (p : Directed → A → Bool) → ((d : Directed) (x : A) → p d x ≡ true → runs_on d (holder x) ≡ true)
    → {c : Directed} {ds : List Directed} → All (λ d. same_direction c d ≡ false) ds → (x : A) → p c x ≡ true → any (λ d. p d x) ds ≡ false
runs_none holder p f {c} a x h =
    of-any-false _ (all_map (λ d n. of-not (p d x) (λ e. not-both (f d x e) (runs-one c d (holder x) n (f c x h)))) a)
