-- Every list of calls: the answers are the book's, and the session stands for the book.
use Prim.Native.Nat.{ℕ}
use mathlib.Core.Path.{◌≡◌, refl, ap, ap₂, sym, ◌∙◌}
use mathlib.Core.List.{List, [], ◌∷◌}
use native.Mathlib.Omega.{arith}
use lib.ListN.{length, length-map}
use Rattle.rules.specs.Units.{Capacities}
use Rattle.rules.specs.Book as B
use Rattle.rules.specs.DayBook as D
use Rattle.rules.specs.Sound.{WellTyped}
use Rattle.rules.specs.Demands.{Begins}
use Rattle.rules.specs.Demands as M
use Rattle.answer.specs.declared.Response.{Response}
use Rattle.session.specs.Image.{image, Sound, published_in}
use Rattle.session.specs.Steps.{Met, As}
use Rattle.session.specs.declared.Session.{Session}
use Rattle.session.specs.declared.Effect.{Effect}
use Rattle.session.proofs.SoundLaws.{opening-sound, effect-sound}
use Rattle.book.specs.Runs.{Called, registers, notifies, avails, grants, sets, lodges, annuls, closes, clears, Ran, ended, then, Started, opened, Agrees}

-- a call that is no capacity notice says nothing of directions
abbrev pub is_notice : D.Call → ℕ
is_notice (D.register u) = 0
is_notice (D.capacity cs) = 1
is_notice (D.available n es) = 0
is_notice (D.rights agent purchase es) = 0
is_notice (D.loss border l) = 0
is_notice (D.lodge bytes) = 0
is_notice (D.annul k) = 0
is_notice D.close = 0
is_notice D.clear = 0

pub other : (c : D.Call) → is_notice c ≡ 0 → WellTyped c
other c h = record { directions = λ cs e. let z : ◌≡◌ {A = ℕ} 0 1 = sym h ∙ ap is_notice e in absurd (omega arith) }

directions_of : D.Call → Capacities
directions_of (D.capacity cs) = cs
directions_of (D.register u) = []
directions_of (D.available n es) = []
directions_of (D.rights agent purchase es) = []
directions_of (D.loss border l) = []
directions_of (D.lodge bytes) = []
directions_of (D.annul k) = []
directions_of D.close = []
directions_of D.clear = []

pub notice-typed : (cs : Capacities) → length cs ≡ 8 → WellTyped (D.capacity cs)
unfolding directions_of
notice-typed cs h = record { directions = λ ds e. ap (λ (c : D.Call). length (directions_of c)) (sym e) ∙ h }

-- what the calls' types give
called-typed : {s : Session} {c : D.Call} {r : Effect} → Called s c r → WellTyped c
called-typed (registers u m) = other _ refl
called-typed (notifies n h m) = notice-typed _ (length-map n.directions published_in ∙ h)
called-typed (avails n m) = other _ refl
called-typed (grants n m) = other _ refl
called-typed (sets l m) = other _ refl
called-typed (lodges bytes m) = other _ refl
called-typed (annuls k m) = other _ refl
called-typed (closes m) = other _ refl
called-typed (clears m) = other _ refl

called-met : {s : Session} {c : D.Call} {r : Effect} → Called s c r → Met s c r
called-met (registers u m) = m
called-met (notifies n h m) = m
called-met (avails n m) = m
called-met (grants n m) = m
called-met (sets l m) = m
called-met (lodges bytes m) = m
called-met (annuls k m) = m
called-met (closes m) = m
called-met (clears m) = m

-- from a session that stands for a sound book
pub agree : {s t : Session} {cs : List D.Call} {rs : List Response} (b : B.Book) → Sound b → s ≡ image b → Ran s cs t rs → Agrees b cs t rs
unfolding D.after D.answers
agree b g e ended = record { sound = g; session = e; answers = refl }
agree b g e (then {c = c} {r = r} k ran) =
    let m : As (D.effect b c) r.answer r.session = (called-met k).book b g e in
    let rest = agree (D.effect b c).book (effect-sound b c (called-typed k) g) m.session ran in
    record { sound = rest.sound; session = rest.session; answers = ap₂ (λ (a : Response) (l : List Response). a ∷ l) m.answer rest.answers }

-- where lists of calls start: the rules' lists may start from that book, it is sound, and the session stands for it
pub started : {s : Session} {b : B.Book} → Started s b → Begins b × Sound b × (s ≡ image b)
started (opened d o p) = (M.opened d, opening-sound d, p.session)

pub day-book : {s t : Session} {b : B.Book} {cs : List D.Call} {rs : List Response} → Started s b → Ran s cs t rs → Agrees b cs t rs
day-book {b = b} start ran = let k = started start in agree b k.1 k.2 ran
