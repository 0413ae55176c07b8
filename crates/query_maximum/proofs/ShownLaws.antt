-- What the maxima's queries read at the directions' indices is what they are to show.
use Prim.Native.Nat.{ℕ, ◌+◌, ◌-◌}
use mathlib.Core.Path.{◌≡◌, refl, ap, ap₂, sym, ◌∙◌}
use mathlib.Core.Bool.{Bool, true, false, not, false≢true}
use mathlib.Core.List.{List}
use mathlib.Core.Option.{some, none}
use native.Mathlib.Omega.{arith}
use lib.IntN.{pos, sub_ℕ}
use lib.ListN.{get_or}
use Rattle.rules.specs.Units as U
use Rattle.rules.specs.Units.{Published, capacity_of}
use Rattle.rules.specs.Book.{Book}
use Rattle.rules.specs.Executions.{bilateral_maximum}
use Rattle.rules.specs.Clearing.{figures_at}
use Rattle.rules.specs.Queries as Q
use Rattle.rules.specs.Queries.{shown}
use Rattle.rules.proofs.BoolLaws.{by_bool}
use Rattle.rules.proofs.BalanceLaws.{market_flow}
use Rattle.hour_borders.proofs.DirectionLaws.{direction-small}
use Rattle.session.specs.Bare.{bare_figures, bare_notice}
use Rattle.session.specs.Image.{image, Sound, notice_as, energy_of, figures_as}
use Rattle.session.specs.declared.Session.{Session}
use Rattle.session.specs.declared.Notice.{Notice}
use Rattle.session.specs.declared.HourFigures.{HourFigures}
use Rattle.session.proofs.IndexLaws.{get_or-map}
use Rattle.session.proofs.ImageLaws.{capacities-as}
use Rattle.answer.specs.Told as T
use Rattle.answer.specs.Told.{value_told, figure}
use Rattle.query.proofs.FigureLaws.{figures-as}
use Rattle.query.proofs.ReplyLaws.{SameRows}
use Rattle.query_balance.specs.Parts.{BorderFits}
use Rattle.query_balance.proofs.FlowLaws.{by-direction, market-at}
use Rattle.query_maximum.specs.declared.Asked.{Asked}
use Rattle.query_maximum.specs.declared.Maximum.{Maximum}
use Rattle.query_maximum.specs.declared.Maximum.TheVariants.{Market, Bilateral}
use Rattle.query_maximum.specs.Parts.{DirectionFits, notice_of, maximum_query, maximum_of}
use Rattle.std.specs.declared.option.Option.TheVariants.{Some, None}
use Rattle.std.specs.Bool.{then_some}
use Rattle.std.proofs.lemmas.Option.{none-some, same_Some}
use Rattle.rules.specs.Lists.{hourly}
use Rattle.query_maximum.proofs.MaximumLaws.{bilateral-by-flows, notice-hourly, no-maximum, no-capacity, the-capacity, the-maximum}

-- a border's maxima are refused as its balances are
pub maximum-rows : (maximum : Maximum) (border : ℕ) (export : Bool) (h : ℕ) → SameRows (Q.market border h) (maximum_query maximum border export h)
unfolding Q.query_rows
maximum-rows Market border export h b = refl
maximum-rows Bilateral border export h b = refl

-- a notice is given exactly if the direction is published
not-given : (p : Published) → (notice_as p).given ≡ false → p ≡ none
unfolding notice_as
not-given none h = refl
not-given (some es) h = absurd (false≢true (sym h))

by-published : (p : Published) {C : Type 0} → (notice_as p).given ≡ true → ((es : List ℕ) → p ≡ some es → C) → C
unfolding notice_as
by-published none h f = absurd (false≢true h)
by-published (some es) h f = f es refl

-- what a test lets through
then-some : {A : Type 0} (t : Bool) (x y : A) → then_some t x ≡ Some y → (t ≡ true) × (x ≡ y)
then-some true x y h = (refl, same_Some x y h)
then-some false x y h = absurd (none-some y h)

-- What is read, where no row refuses

module _ (s : Session) (border : ℕ) (export : Bool) (hour : ℕ) (p : Asked) (f : DirectionFits s border export hour p) (b : Book) (sound : Sound b) (e : s ≡ image b) where
  abbrev figures : HourFigures
  figures = get_or s.figures p.at bare_figures

  abbrev notice : Notice
  notice = notice_of s border export

  abbrev fits : BorderFits s border hour p.at
  fits = f.borders

  abbrev capacity : Published
  capacity = capacity_of b.capacities border export

  the-notice : notice ≡ notice_as capacity
  unfolding U.capacity_of
  the-notice =
      ap (λ (l : List Notice). get_or l (U.direction border export) bare_notice) (capacities-as s b e)
      ∙ get_or-map notice_as none bare_notice b.capacities (U.direction border export) (omega (arith, sound.directions, direction-small border export (omega (arith, fits.high))))

  flow-at : (x : Bool) → get_or figures.market (U.direction border x) 0 ≡ market_flow border x (figures_at b hour).offers
  flow-at = market-at s b e border hour p.at fits

  maximum-at : get_or figures.maxima (U.direction border export) 0 ≡ energy_of (figures_at b hour).maxima border export
  unfolding figures_as
  maximum-at =
      ap (λ (y : HourFigures). get_or y.maxima (U.direction border export) 0) (figures-as s b e fits.hours)
      ∙ by-direction (energy_of (figures_at b hour).maxima) border export fits.low fits.high

  module _ (energy : ℕ) (is : p.capacity ≡ Some energy) where
    given : (notice.given ≡ true) × (get_or notice.energies p.at 0 ≡ energy)
    given = then-some notice.given _ energy (sym f.capacity ∙ is)

    is-given : (notice_as capacity).given ≡ true
    is-given = ap (λ (y : Notice). y.given) (sym the-notice) ∙ given.0

    the-energy : (es : List ℕ) → capacity ≡ some es → energy ≡ hourly es hour
    the-energy es k =
        sym given.1
        ∙ ap (λ i. get_or notice.energies i 0) fits.hours.index
        ∙ ap (λ (y : Notice). get_or y.energies (hour - 1) 0) (the-notice ∙ ap notice_as k)
        ∙ notice-hourly es hour

    -- what is made of it is what its query is to show
    pub maximum-shown : (maximum : Maximum) → figure (maximum_of maximum figures p energy) ≡ value_told (shown b (maximum_query maximum border export hour))
    unfolding value_told shown
    maximum-shown Market =
        by-published capacity is-given
        (λ es k. ap (λ i. figure (pos (get_or figures.maxima i 0))) f.direction ∙ ap (λ m. figure (pos m)) maximum-at ∙ ap value_told (sym (the-maximum b border export fits.low fits.high hour es k)))
    maximum-shown Bilateral =
        by-published capacity is-given
        (λ es k.
        let d = bilateral_maximum (figures_at b hour).offers in
        let along = ap (λ i. get_or figures.market i 0) f.direction ∙ flow-at export in
        let against = ap (λ i. get_or figures.market i 0) f.other ∙ flow-at (not export) in
        ap figure (ap₂ sub_ℕ (ap₂ (λ m n. m + n) (the-energy es k) against) along ∙ sym (bilateral-by-flows (figures_at b hour).offers _))
        ∙ ap value_told (sym (the-capacity b border export fits.low fits.high hour d es k)))

  module _ (is : p.capacity ≡ None) where
    is_none : capacity ≡ none
    is_none =
        by_bool notice.given
        (λ t. absurd (none-some _ (sym is ∙ (f.capacity ∙ ap (λ q. then_some q (get_or notice.energies p.at 0)) t))))
        (λ t. not-given capacity (ap (λ (y : Notice). y.given) (sym the-notice) ∙ t))

    pub maximum-absent : (maximum : Maximum) → T.absent ≡ value_told (shown b (maximum_query maximum border export hour))
    unfolding value_told shown
    maximum-absent Market = ap value_told (sym (no-maximum b border export fits.low fits.high hour (λ m. pos m.energy) is_none))
    maximum-absent Bilateral = ap value_told (sym (no-capacity b border export fits.low fits.high hour (bilateral_maximum (figures_at b hour).offers) is_none))
