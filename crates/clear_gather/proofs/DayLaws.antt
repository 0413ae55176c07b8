-- A closed book in the session that stands for it: what stands at each index of the arrays.
use Prim.Native.Nat.{ℕ, suc, ◌<◌}
use mathlib.Core.Path.{◌≡◌, refl, sym, ap, ◌∙◌}
use mathlib.Core.Bool.{Bool, true, false, cond, not, ◌&&◌, beq}
use mathlib.Core.List.{List, [], map, map-map}
use native.Mathlib.Omega.{arith}
use lib.Dec.{ltb}
use lib.ListN.{get_or, length, length-map}
use Rattle.rules.specs.Lists.{keep, from}
use Rattle.rules.specs.Units as U
use Rattle.rules.specs.Lodging as L
use Rattle.rules.specs.Book as B
use Rattle.rules.specs.Closing as C
use Rattle.rules.proofs.ListLaws.{keep-map, keep-keep, keep_same, all_keep, hourly-suc}
use Rattle.rules.proofs.ElementLaws.{all-every}
use Rattle.rules.proofs.IndexLaws.{from_all, map-all}
use Rattle.session.specs.Bare.{bare_energies}
use Rattle.session.specs.declared.Session.{Session}
use Rattle.session.specs.declared.Unit.{Unit}
use Rattle.session.specs.Laid.{pad}
use Rattle.session.specs.Image as I
use Rattle.session.specs.Parts.{number_is}
use Rattle.session.proofs.IndexLaws.{get_or-map}
use Rattle.session.proofs.ImageLaws.{units-as, lodgements-as, losses-as}
use Rattle.rules.specs.Match as M
use Rattle.rules.specs.Clearing as R
use Rattle.hour_offers.specs.declared.Holder.{Holder}
use Rattle.hour_offers.specs.View.{holder_in}
use Rattle.clear_gather.specs.Built.{unit_among, holder_of, no_holder, Holders, counts, counts_at, energy_on, chosen}
use Rattle.clear_gather.proofs.ListLaws.{all-indices, laid-at, first-map}

abbrev holder_with : ℕ → List ℕ → Unit → M.Holder
holder_with n losses u = record { number = n; unit = u.number; border = u.border; purchase = u.purchase; legacy = u.legacy; loss = U.unit_loss losses (I.unit_in u) }

abbrev pub blank : L.Lodgement
blank = record { key = record { execution = false; default = false; unit = 0; contract = 0 }; number = 0; energies = []; prices = [] }

accepted-as : (v : C.Verdict) → (I.verdict_as v).accepted ≡ C.is_accepted v
unfolding I.verdict_as C.is_accepted
accepted-as C.accepted = refl
accepted-as C.hidden = refl
accepted-as (C.limit n h) = refl

module _ (b : B.Book) where
  -- the lodgement at an index
  abbrev pub standing : ℕ → L.Lodgement
  standing i = get_or b.standing i blank

  -- a lodgement of the kind, accepted at closing, that names the hour after k others
  unfoldable pub chosen_in : Bool → ℕ → L.Lodgement → Bool
  chosen_in execution k l =
      C.is_accepted (C.verdict_among (C.judgements b) l.number) && (beq l.key.execution execution && ltb 0 (get_or l.energies k 0))

-- the rules' choice

offers-test : (a c x : Bool) → ((a && c) && not x) ≡ (a && (beq x false && c))
offers-test true true true = refl
offers-test true true false = refl
offers-test true false true = refl
offers-test true false false = refl
offers-test false c x = refl

executions-test : (a c x : Bool) → ((a && c) && x) ≡ (a && (beq x true && c))
executions-test true true true = refl
executions-test true true false = refl
executions-test true false true = refl
executions-test true false false = refl
executions-test false c x = refl

module _ (b : B.Book) (k : ℕ) where
  abbrev named : List L.Lodgement
  named = keep (λ l. ltb 0 (L.energy_at l (suc k))) (C.accepted_at b)

  both-tests : (q : L.Lodgement → Bool) → keep q named ≡ keep (λ l. (C.is_accepted (C.verdict_among (C.judgements b) l.number) && ltb 0 (L.energy_at l (suc k))) && q l) b.standing
  unfolding C.accepted_at
  both-tests q =
      ap (keep q) (keep-keep (λ l. C.is_accepted (C.verdict_among (C.judgements b) l.number)) (λ l. ltb 0 (L.energy_at l (suc k))) b.standing)
      ∙ keep-keep _ q b.standing

  pub named-offers : keep (λ l. not l.key.execution) named ≡ keep (chosen_in b false k) b.standing
  unfolding chosen_in L.energy_at
  named-offers =
      both-tests (λ l. not l.key.execution)
      ∙ keep_same _ _ (all-every (λ l. rw (hourly-suc l.energies k) (offers-test (C.is_accepted (C.verdict_among (C.judgements b) l.number)) (ltb 0 (get_or l.energies k 0)) l.key.execution)) b.standing)

  pub named-executions : keep (λ l. l.key.execution) named ≡ keep (chosen_in b true k) b.standing
  unfolding chosen_in L.energy_at
  named-executions =
      both-tests (λ l. l.key.execution)
      ∙ keep_same _ _ (all-every (λ l. rw (hourly-suc l.energies k) (executions-test (C.is_accepted (C.verdict_among (C.judgements b) l.number)) (ltb 0 (get_or l.energies k 0)) l.key.execution)) b.standing)

-- the session's arrays

module _ (s : Session) (b : B.Book) (e : s ≡ I.image b) where
  pub lodgement-at : (i : ℕ) → i < length b.standing → get_or s.lodgements i I.no_lodgement ≡ I.lodgement_as (standing b i)
  unfolding I.image
  lodgement-at i h = rw e (laid-at blank I.lodgement_as 128 I.no_lodgement I.no_lodgement b.standing i h)

  pub energies-at : (i : ℕ) → i < length b.standing → get_or s.energies i bare_energies ≡ I.energies_as (standing b i)
  unfolding I.image
  energies-at i h = rw e (laid-at blank I.energies_as 128 I.no_energies bare_energies b.standing i h)

  verdicts-in : b.closed ≡ true → I.verdicts_in b ≡ C.verdicts b
  unfolding I.verdicts_in
  verdicts-in c = ap (λ (t : Bool). cond t (C.verdicts b) []) c

  verdict-at : b.closed ≡ true → (i : ℕ) → i < length b.standing → (get_or s.verdicts i I.no_verdict).accepted ≡ C.is_accepted (C.verdict_among (C.judgements b) (standing b i).number)
  unfolding I.image C.verdicts
  verdict-at c i h =
      let judged : L.Lodgement → C.Verdict = λ l. C.verdict_among (C.judgements b) l.number in
      rw e (
      ap (λ (vs : List C.Verdict). (get_or (pad 128 I.no_verdict (map I.verdict_as vs)) i I.no_verdict).accepted) (verdicts-in c)
      ∙ (ap (λ v. v.accepted) (laid-at C.hidden I.verdict_as 128 I.no_verdict I.no_verdict (map judged b.standing) i (omega (arith, length-map b.standing judged)))
      ∙ (accepted-as (get_or (map judged b.standing) i C.hidden)
      ∙ ap C.is_accepted (get_or-map judged blank C.hidden b.standing i h)))
      )

  -- whose a lodgement's energies are
  among-as : (n : ℕ) → unit_among (map I.unit_of b.units) n ≡ I.unit_of (U.unit_of b.units n)
  unfolding unit_among U.unit_of U.has_number
  among-as n = first-map U.nobody I.unit_of (number_is n) b.units

  pub holders-as : (hs : List Holder) → Holders s hs → hs ≡ map (λ l. holder_of (map I.unit_of b.units) b.losses (I.lodgement_as l)) b.standing
  holders-as hs c = c ∙ (rw (units-as s b e, lodgements-as s b e, ← (losses-as s b e)) (map-map (holder_of (map I.unit_of b.units) b.losses) I.lodgement_as b.standing))

  pub holder-at : (hs : List Holder) → Holders s hs → (i : ℕ) → i < length b.standing → holder_in (get_or hs i no_holder) ≡ R.holder_of b.units b.losses (standing b i)
  unfolding R.holder_of holder_of
  holder-at hs c i h =
      ap (λ (x : List Holder). holder_in (get_or x i no_holder)) (holders-as hs c)
      ∙ (ap holder_in (get_or-map (λ l. holder_of (map I.unit_of b.units) b.losses (I.lodgement_as l)) blank no_holder b.standing i h)
      ∙ ap (λ (u : Unit). holder_with (standing b i).number b.losses u) (among-as (standing b i).key.unit))

  pub holders-long : (hs : List Holder) → Holders s hs → length hs ≡ length b.standing
  holders-long hs c = ap length (holders-as hs c) ∙ length-map b.standing _

  module _ (closed : b.closed ≡ true) (execution : Bool) (k : ℕ) where
    counts-as : (i : ℕ) → i < length b.standing → counts_at s.verdicts s.lodgements s.energies execution k i ≡ chosen_in b execution k (standing b i)
    unfolding counts_at counts energy_on chosen_in
    counts-as i h = rw (verdict-at closed i h, lodgement-at i h, energies-at i h)

    indices-as : keep (counts_at s.verdicts s.lodgements s.energies execution k) (from 0 (length b.standing)) ≡ keep (λ i. chosen_in b execution k (standing b i)) (from 0 (length b.standing))
    indices-as = keep_same _ _ (from_all _ 0 (length b.standing) (λ i l h. counts-as i (omega arith)))

    -- what is gathered from the indices is of the lodgements that the rules choose, in their order
    pub gathered : {A : Type 0} (f : L.Lodgement → A) (own : ℕ → A) (n : ℕ) → n ≡ length b.standing → ((i : ℕ) → i < length b.standing → own i ≡ f (standing b i))
        → map own (chosen s n execution k) ≡ map f (keep (chosen_in b execution k) b.standing)
    gathered f own n l same =
        ap (λ m. map own (chosen s m execution k)) l
        ∙ (ap (map own) indices-as
        ∙ (map-all own (λ i. f (standing b i)) (all_keep (λ i. chosen_in b execution k (standing b i)) (from_all _ 0 (length b.standing) (λ i a h. same i (omega arith))))
        ∙ (sym (map-map f (standing b) (keep (λ i. chosen_in b execution k (standing b i)) (from 0 (length b.standing))))
        ∙ ap (map f) (sym (keep-map (standing b) (chosen_in b execution k) (from 0 (length b.standing))) ∙ ap (keep (chosen_in b execution k)) (all-indices blank b.standing)))))
