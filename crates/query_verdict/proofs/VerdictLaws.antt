-- Verdicts at the lodgements' indices, and what they are told as.
use Prim.Native.Nat.{ℕ, zero, suc, ◌<◌}
use mathlib.Core.Path.{◌≡◌, refl, ap, sym, ◌∙◌}
use mathlib.Core.Bool.{Bool, true, false, cond, not}
use mathlib.Core.List.{List, [], ◌∷◌, map}
use native.Mathlib.Omega.{arith}
use lib.Dec.{eqb}
use lib.ListN.{length, get_or, take, length-map}
use borrow.Author.Tests.{eqb-true, not-true, ltb-true, lt-ltb}
use Rattle.rules.specs.Lists.{All, none, more, Pairwise, empty, ahead, first}
use Rattle.rules.specs.Refusals.{Row, row, limit_row, first_row}
use Rattle.rules.specs.Units.{unit_of}
use Rattle.rules.specs.Lodging as L
use Rattle.rules.specs.Book.{Book, lines_of, limits_of}
use Rattle.rules.specs.Judging.{judge_each}
use Rattle.rules.specs.Closing as C
use Rattle.rules.specs.Queries as Q
use Rattle.rules.specs.Queries.{is_standing}
use Rattle.rules.proofs.BoolLaws.{by_bool}
use Rattle.rules.proofs.ListLaws.{all-at, first_passes, all-mapped}
use Rattle.rules.proofs.CeilingLaws.{limits-numbered}
use Rattle.session.specs.Bare.{bare_verdict}
use Rattle.session.specs.Laid.{pad}
use Rattle.session.specs.Image.{image, Sound, verdicts_in, verdict_as, no_verdict, no_lodgement, lodgement_as}
use Rattle.session.specs.Parts.{Within, within, index_of, given_by}
use Rattle.session.specs.declared.Session.{Session}
use Rattle.session.specs.declared.Lodgement.{Lodgement}
use Rattle.session.proofs.IndexLaws.{indexed, unindexed, index-first, index-map, get_or-map, position-as}
use Rattle.session.proofs.ImageLaws.{closed-as, lodgements-as}
use Rattle.answer.specs.Told.{value_told, verdict_told}
use Rattle.std.specs.declared.option.Option.{Option}
use Rattle.std.specs.declared.option.Option.TheVariants.{Some, None}
use Rattle.std.specs.declared.result.Result.{Result}
use Rattle.std.specs.declared.result.Result.TheVariants.{Ok, Err}
use Rattle.std.specs.Option.{ok_or}
use Rattle.std.specs.Prelude.{IfSome, IfOk}
use Rattle.std.specs.List.{position}
use Rattle.std.proofs.lemmas.Option.{none-some, cond_some}
use Rattle.rules.specs.declared.row.Row as Code
use Rattle.rules.specs.declared.row.Row.TheVariants.{Gate, Absent}
use Rattle.query.specs.Parts.{Judges}
use Rattle.query.proofs.RowLaws.{unsound}
use Rattle.query_verdict.specs.Parts.{lodged, number_at, Rising, told_as, VerdictFits}
use Rattle.query.proofs.FigureLaws.{pad-at}

-- A limit's number is never 0

-- accepted, hidden, or a limit that has a number
unfoldable pub is_numbered : C.Verdict → Bool
is_numbered C.accepted = true
is_numbered C.hidden = true
is_numbered (C.limit n h) = not (eqb n 0)

rows-numbered : {rows : List Row} → All (λ r. eqb r.number 0 ≡ false) rows → is_numbered (C.verdict_of_row (first_row rows)) ≡ true
unfolding C.verdict_of_row first_row is_numbered
rows-numbered none = refl
rows-numbered (more {x} h t) = by_bool x.applies (λ e. rw (e, h)) (λ e. rw e (rows-numbered t))

-- limits have numbers of the table
judge-numbered : (b : Book) (before : List L.Lodgement) (l : L.Lodgement) → is_numbered (C.judge b before l) ≡ true
unfolding C.judge L.limit_rows limit_row limits_of
judge-numbered b before l = rows-numbered (all-mapped _ (limits-numbered (lines_of b) (unit_of b.units l.key.unit)))

each-numbered : {A : Type 0} (number : A → ℕ) (judge : List A → A → C.Verdict) → ((before : List A) (x : A) → is_numbered (judge before x) ≡ true)
    → (before xs : List A) (n : ℕ) → is_numbered (C.verdict_among (judge_each number judge before xs) n) ≡ true
unfolding C.verdict_among judge_each is_numbered
each-numbered number judge f before [] n = refl
each-numbered number judge f before (x ∷ xs) n =
    by_bool (eqb (number x) n) (λ t. rw t (f before x))
    (λ t. rw t (each-numbered number judge f (cond (C.is_accepted (judge before x)) (x ∷ before) before) xs n))

pub among-numbered : (b : Book) (n : ℕ) → is_numbered (C.verdict_among (C.judgements b) n) ≡ true
unfolding C.judgements
among-numbered b n = each-numbered (λ (l : L.Lodgement). l.number) (C.judge b) (judge-numbered b) [] (C.closing_order b.standing) n

-- so a verdict is told as it is
pub told-as : (v : C.Verdict) → is_numbered v ≡ true → told_as (verdict_as v) ≡ verdict_told v
unfolding verdict_told told_as verdict_as is_numbered
told-as C.accepted h = refl
told-as C.hidden h = refl
told-as (C.limit n h) k = rw (not-true (eqb n 0) k)

-- Where a lodging number's verdict stands

abbrev has_number : ℕ → L.Lodgement → Bool
has_number n l = eqb l.number n

abbrev blank : L.Lodgement
blank = record { key = record { execution = false; default = false; unit = 0; contract = 0 }; number = 0; energies = []; prices = [] }

verdict-at : (b : Book) (n : ℕ) → is_standing b n ≡ true
    → get_or (pad 128 no_verdict (map verdict_as (C.verdicts b))) (index_of (has_number n) b.standing) bare_verdict ≡ verdict_as (C.verdict_among (C.judgements b) n)
unfolding C.verdicts is_standing
verdict-at b n h =
    let p = indexed (has_number n) b.standing h in
    let js = C.judgements b in
    pad-at 128 no_verdict bare_verdict (map verdict_as (C.verdicts b)) (index_of (has_number n) b.standing)
    (omega (arith, length-map (C.verdicts b) verdict_as, length-map b.standing (λ l. C.verdict_among js l.number)))
    ∙ get_or-map verdict_as C.hidden bare_verdict (C.verdicts b) (index_of (has_number n) b.standing) (omega (arith, length-map b.standing (λ l. C.verdict_among js l.number)))
    ∙ ap verdict_as (get_or-map (λ l. C.verdict_among js l.number) blank C.hidden b.standing (index_of (has_number n) b.standing) p
    ∙ ap (λ l. C.verdict_among js l.number) (sym (index-first (has_number n) blank b.standing))
    ∙ ap (C.verdict_among js) (eqb-true (first (has_number n) blank b.standing).number n (first_passes (has_number n) blank b.standing h)))

numbers-rise : {ls : List L.Lodgement} → Pairwise (λ k l. k.number < l.number) ls → (i j : ℕ) → i < j → j < length ls → (get_or ls i blank).number < (get_or ls j blank).number
numbers-rise empty i j l h = absurd (omega arith)
numbers-rise (ahead a t) i zero l h = absurd (omega arith)
numbers-rise (ahead a t) zero (suc j) l h = all-at j blank a (omega arith)
numbers-rise (ahead a t) (suc i) (suc j) l h = numbers-rise t i j (omega arith) (omega arith)

module _ (s : Session) (b : Book) (e : s ≡ image b) where
  abbrev standing : List Lodgement
  standing = take s.standing s.lodgements

  number-as : (i : ℕ) → i < length b.standing → number_at standing i ≡ (get_or b.standing i blank).number
  number-as i h =
      ap (λ (l : Lodgement). l.number)
      (ap (λ (ls : List Lodgement). get_or ls i no_lodgement) (lodgements-as s b e) ∙ get_or-map lodgement_as blank no_lodgement b.standing i h)

  long : length standing ≡ length b.standing
  long = ap length (lodgements-as s b e) ∙ length-map b.standing lodgement_as

  -- a sound book's lodgements stand by rising number
  pub rises : Sound b → Rising standing
  rises sound i j l h = rw (number-as i (omega (arith, long)), number-as j (omega (arith, long))) (numbers-rise sound.ranges.standing.rising i j l (omega (arith, h, long)))

  index-among : (n : ℕ) → index_of (lodged n) standing ≡ index_of (has_number n) b.standing
  index-among n = rw (lodgements-as s b e) (index-map lodgement_as (lodged n) b.standing)

  verdicts-list : s.closed ≡ true → s.verdicts ≡ pad 128 no_verdict (map verdict_as (C.verdicts b))
  unfolding image verdicts_in
  verdicts-list k = let c = closed-as s b e ∙ k in rw (e, c)

  module _ (n : ℕ) where
    -- a number that is looked for and found stands, and one that is not does not
    stands : (at : ℕ) → position (lodged n) standing ≡ Some at → (is_standing b n ≡ true) × (at ≡ index_of (has_number n) b.standing)
    unfolding is_standing
    stands at h =
        let c = cond_some _ _ at (sym (position-as (lodged n) standing) ∙ h) in
        let inside = ltb-true (index_of (lodged n) standing) (length standing) c.0 in (
          by_bool (is_standing b n) (λ t. t) (λ t. absurd (omega (arith, inside, long, index-among n, unindexed (has_number n) b.standing t))),
          sym c.1 ∙ index-among n,
        )

    absent : position (lodged n) standing ≡ None → is_standing b n ≡ false
    unfolding is_standing
    absent h =
        by_bool (is_standing b n)
        (λ t.
        let inside : index_of (lodged n) standing < length standing = omega (arith, index-among n, long, indexed (has_number n) b.standing t) in
        absurd (none-some (index_of (lodged n) standing) (sym h ∙ (position-as (lodged n) standing ∙ rw (lt-ltb _ _ inside) refl))))
        (λ t. t)

    -- the verdict at its index is the number's
    verdict-as : (at : ℕ) → s.closed ≡ true → position (lodged n) standing ≡ Some at → get_or s.verdicts at bare_verdict ≡ verdict_as (C.verdict_among (C.judgements b) n)
    verdict-as at k h = let q = stands at h in rw (verdicts-list k, q.1) (verdict-at b n q.0)

-- The ways out

module _ (s : Session) (n : ℕ) where
  -- a judgement of a lodging number is the table's
  abbrev ByTable : Result ℕ Code.Row → Type 0
  ByTable j = Judges s (Q.verdict n) j

  pub verdict-unsound : within s ≡ false → ByTable (Err Gate)
  verdict-unsound w b sound e = unsound s w b sound e

  pub verdict-2 : s.closed ≡ false → ByTable (Err Gate)
  unfolding Q.query_rows row first_row given_by
  verdict-2 k b sound e = rw (closed-as s b e, k)

  module _ (k : s.closed ≡ true) where
    verdict-13 : (Rising (take s.standing s.lodgements) → position (lodged n) (take s.standing s.lodgements) ≡ None) → ByTable (Err Absent)
    unfolding Q.query_rows row first_row given_by
    verdict-13 h b sound e = rw (absent s b e n (h (rises s b e sound)), closed-as s b e, k)

    verdict-0 : (at : ℕ) → (Rising (take s.standing s.lodgements) → position (lodged n) (take s.standing s.lodgements) ≡ Some at) → ByTable (Ok at)
    unfolding Q.query_rows row first_row given_by
    verdict-0 at h b sound e = rw ((stands s b e n at (h (rises s b e sound))).0, closed-as s b e, k)

    -- the number that was looked for is found, or refused
    pub verdict-found : (o : Option ℕ) → (Rising (take s.standing s.lodgements) → o ≡ position (lodged n) (take s.standing s.lodgements)) → ByTable (ok_or o Absent)
    verdict-found None h = verdict-13 (λ r. sym (h r))
    verdict-found (Some at) h = verdict-0 at (λ r. sym (h r))

pub found-fits : (s : Session) (n : ℕ) → Within s → s.closed ≡ true → (o : Option ℕ) → IfSome o (λ at. at < length (take s.standing s.lodgements))
    → (Rising (take s.standing s.lodgements) → o ≡ position (lodged n) (take s.standing s.lodgements)) → IfOk (ok_or o Absent) (λ at. VerdictFits s n at)
found-fits s n w k None l h = tt
found-fits s n w k (Some at) l h = record { within = w; closed = k; inside = l; found = λ r. sym (h r) }

-- what is read there is what the query is to show
pub verdict-shown : (s : Session) (n at : ℕ) → VerdictFits s n at → (b : Book) → Sound b → s ≡ image b
    → told_as (get_or s.verdicts at bare_verdict) ≡ value_told (Q.shown b (Q.verdict n))
unfolding Q.shown value_told
verdict-shown s n at f b sound e =
    ap told_as (verdict-as s b e n at f.closed (f.found (rises s b e sound))) ∙ told-as (C.verdict_among (C.judgements b) n) (among-numbered b n)
