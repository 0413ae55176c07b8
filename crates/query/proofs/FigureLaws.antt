-- The figures at the hours' indices.
use Prim.Native.Nat.{ℕ, ◌+◌, ◌-◌, ◌<◌}
use mathlib.Core.Path.{◌≡◌, ap, ◌∙◌}
use mathlib.Core.Bool.{true}
use mathlib.Core.List.{List, map}
use native.Mathlib.Omega.{arith}
use lib.IntN.{pos}
use lib.ListN.{length, get_or, length-map, get_or-append}
use Rattle.rules.specs.Lists.{from}
use Rattle.rules.specs.Book.{Book, hours}
use Rattle.rules.specs.Queries as Q
use Rattle.rules.proofs.IndexLaws.{length_from, from_at}
use Rattle.session.specs.Bare.{bare_figures}
use Rattle.session.specs.Laid.{pad}
use Rattle.session.specs.Image.{image, Sound, hours_in, figures_as, no_figures}
use Rattle.session.specs.declared.Session.{Session}
use Rattle.session.specs.declared.HourFigures.{HourFigures}
use Rattle.session.proofs.IndexLaws.{get_or-map}
use Rattle.session.proofs.ImageLaws.{hours-as, cleared-as}
use Rattle.answer.specs.Told.{value_told, figure}
use Rattle.query.specs.Parts.{HourFits}

-- Indices of lists

pub pad-at : {A : Type 0} (n : ℕ) (d e : A) (l : List A) (i : ℕ) → i < length l → get_or (pad n d l) i e ≡ get_or l i e
unfolding pad
pad-at n d e l i h = get_or-append l _ e i h

-- an element of what is made of the numbers from i on
pub made_at : {A : Type 0} (f : ℕ → A) (e : A) (i n k : ℕ) → k < n → get_or (map f (from i n)) k e ≡ f (i + k)
made_at f e i n k h = get_or-map f 0 e (from i n) k (omega (arith, length_from i n)) ∙ ap f (from_at i n k h)

-- In a session

module _ (s : Session) (b : Book) (e : s ≡ image b) where
  figures-list : s.cleared ≡ true → s.figures ≡ pad 25 no_figures (map (figures_as b) (from 1 (hours b)))
  unfolding image hours_in
  figures-list k = let c = cleared-as s b e ∙ k in rw (e, c)

  -- the figures at an hour's index are that hour's
  pub figures-as : {h at : ℕ} → HourFits s h at → get_or s.figures at bare_figures ≡ figures_as b h
  figures-as {h} f =
      let l = f.low in
      let m : h - 1 < hours b = omega (arith, f.high, hours-as s b e) in
      ap (λ i. get_or s.figures i bare_figures) f.index
      ∙ ap (λ (x : List HourFigures). get_or x (h - 1) bare_figures) (figures-list f.cleared)
      ∙ pad-at 25 no_figures bare_figures (map (figures_as b) (from 1 (hours b))) (h - 1) (omega (arith, length-map (from 1 (hours b)) (figures_as b), length_from 1 (hours b)))
      ∙ made_at (figures_as b) bare_figures 1 (hours b) (h - 1) m
      ∙ ap (figures_as b) (let q : 1 + (h - 1) ≡ h = omega arith in q)

-- what the price's query reads is what it is to show
pub price-shown : (s : Session) (hour at : ℕ) → HourFits s hour at
    → (b : Book) → Sound b → s ≡ image b → figure (pos (get_or s.figures at bare_figures).price) ≡ value_told (Q.shown b (Q.price hour))
unfolding value_told Q.shown figures_as
price-shown s hour at f b sound e = ap (λ (y : HourFigures). figure (pos y.price)) (figures-as s b e f)
