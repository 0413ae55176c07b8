-- A log's records, and the loop that runs their calls.
use Prim.Native.Nat.{ℕ, zero, suc, ◌+◌, ◌*◌, ◌-◌, ◌≤◌, ◌<◌}
use mathlib.Core.Path.{◌≡◌, refl, sym, ap, ◌∙◌}
use mathlib.Core.Bool.{true, false}
use mathlib.Core.List.{List, [], ◌∷◌, ◌++◌, map, append_assoc}
use native.Mathlib.Omega.{arith}
use native.Mathlib.Numerals.{add-one}
use lib.Dec.{leb, eqb}
use lib.ListN.{length, get_or, set, take, drop, length-drop, length-append, length-map}
use lib.Seq.{drop-drop, drop-cons}
use borrow.Author.Tests.{le-leb, lt-leb}
use Rattle.std.proofs.lemmas.Bool.{leb-true}
use Rattle.rules.specs.Lists.{from}
use Rattle.rules.specs.Hours.{Date}
use Rattle.rules.specs.Book.{Book}
use Rattle.rules.specs.DayBook as D
use Rattle.rules.specs.Sound.{WellTyped}
use Rattle.rules.proofs.BoolLaws.{by_bool, both}
use Rattle.answer.specs.Told.{told}
use Rattle.answer.specs.declared.Response.{Response}
use Rattle.session.specs.Image.{image, Sound}
use Rattle.session.specs.Steps.{Met, As, Opens}
use Rattle.session.specs.declared.Session.{Session}
use Rattle.session.specs.declared.Effect.{Effect}
use Rattle.session.specs.declared.Opened.{Opened}
use Rattle.session.proofs.SoundLaws.{opening-sound, effect-sound}
use Rattle.session.proofs.LaidLaws.{map_last}
use Rattle.book_log.specs.Calls.{call_of, directions_of, is_call, starts, size_of, first_call, onward, calls_in, bytes_in, answer_word}
use Rattle.book.specs.declared.Reached.{Reached}
use Rattle.book.specs.Replays.{Reruns, ReplaysOn, Replays, Running, word_of}
use Rattle.book.proofs.RunLaws.{other, notice-typed}
use Rattle.book.proofs.CallLaws.{met-as}

-- The record that a log starts with

module _ (l : List ℕ) (high low : ℕ) (x : high ≡ get_or l 1 0) (y : low ≡ get_or l 2 0) where
  pub size-as : high * 256 + low ≡ size_of l
  unfolding size_of
  size-as = rw (x, y) refl

  -- its head or what follows is cut off
  pub record-cut : length l < 3 + (high * 256 + low) → starts l ≡ false
  unfolding starts
  record-cut h = rw (lt-leb (3 + size_of l) (length l) (omega (arith, size-as))) refl

  -- it is all there: its kind and size say whether it is a call's
  pub record-whole : (k : ℕ) → k ≡ get_or l 0 0 → 3 + (high * 256 + low) ≤ length l → starts l ≡ is_call k (high * 256 + low)
  unfolding starts
  record-whole k e h = rw (le-leb (3 + size_of l) (length l) (omega (arith, size-as)), e, size-as) refl

-- Calls of a log are the types' calls

eight : (p : List ℕ) → length (directions_of p) ≡ 8
unfolding directions_of from
eight p = refl

logged-typed : (k : ℕ) (p : List ℕ) → WellTyped (call_of k p)
unfolding call_of
logged-typed k p =
    by_bool (eqb k 1) (λ a. rw a (other _ refl))
    (λ a. by_bool (eqb k 2) (λ b. rw (a, b) (notice-typed _ (eight p)))
    (λ b. by_bool (eqb k 3) (λ c. rw (a, b, c) (other _ refl))
    (λ c. by_bool (eqb k 4) (λ d. rw (a, b, c, d) (other _ refl))
    (λ d. by_bool (eqb k 5) (λ e. rw (a, b, c, d, e) (other _ refl))
    (λ e. by_bool (eqb k 6) (λ f. rw (a, b, c, d, e, f) (other _ refl))
    (λ f. by_bool (eqb k 7) (λ g. rw (a, b, c, d, e, f, g) (other _ refl))
    (λ g. by_bool (eqb k 8) (λ h. rw (a, b, c, d, e, f, g, h) (other _ refl))
    (λ h. by_bool (eqb k 9) (λ i. rw (a, b, c, d, e, f, g, h, i) (other _ refl))
    (λ i. rw (a, b, c, d, e, f, g, h, i) (other _ refl))))))))))

-- The loop

after_last : (b : Book) (cs : List D.Call) (c : D.Call) → D.after b (cs ++ (c ∷ [])) ≡ (D.effect (D.after b cs) c).book
unfolding D.after
after_last b [] c = refl
after_last b (d ∷ cs) c = after_last (D.effect b d).book cs c

answers-last : (b : Book) (cs : List D.Call) (c : D.Call) → D.answers b (cs ++ (c ∷ [])) ≡ D.answers b cs ++ ((D.effect (D.after b cs) c).answer ∷ [])
unfolding D.after D.answers
answers-last b [] c = refl
answers-last b (d ∷ cs) c = ap (λ (l : List D.Answer). (D.effect b d).answer ∷ l) (answers-last (D.effect b d).book cs c)

answers-many : (b : Book) (cs : List D.Call) → length (D.answers b cs) ≡ length cs
unfolding D.answers
answers-many b [] = refl
answers-many b (d ∷ cs) = ap suc (answers-many (D.effect b d).book cs)

set-over : (x y : ℕ) (ys xs : List ℕ) (n : ℕ) → length xs ≡ n → set (xs ++ (y ∷ ys)) n x ≡ (xs ++ (x ∷ [])) ++ ys
set-over x y ys [] zero h = refl
set-over x y ys [] (suc n) h = absurd (omega arith)
set-over x y ys (z ∷ xs) zero h = absurd (omega arith)
set-over x y ys (z ∷ xs) (suc n) h = ap (λ (t : List ℕ). z ∷ t) (set-over x y ys xs n (omega arith))

append-nil : {A : Type 0} (xs : List A) → xs ++ [] ≡ xs
append-nil [] = refl
append-nil (x ∷ xs) = ap (λ (t : List _). x ∷ t) (append-nil xs)

no-calls : (n : ℕ) (log : List ℕ) → false ≡ starts log → calls_in n log ≡ []
unfolding calls_in
no-calls zero log h = refl
no-calls (suc n) log h = rw (sym h)

no-call-bytes : (n : ℕ) (log : List ℕ) → false ≡ starts log → bytes_in n log ≡ 0
unfolding bytes_in
no-call-bytes zero log h = refl
no-call-bytes (suc n) log h = rw (sym h)

-- one more answer after the others
set-behind : (xs old : List ℕ) (n x : ℕ) → length xs ≡ n → n < length old → set (xs ++ drop n old) n x ≡ (xs ++ (x ∷ [])) ++ drop (n + 1) old
set-behind xs old n x h k =
    rw (add-one, drop-cons old n 0 k) (set-over x (get_or old n 0) (drop (suc n) old) xs n h)

pub running-start : (b : Book) (log : List ℕ) (N : ℕ) (old : List ℕ) (s : Session) → Sound b → s ≡ image b → Running b log N old s 0 0 old
unfolding D.after D.answers
running-start b log N old s g e =
    let z : N - 0 ≡ N = omega arith in
    record {
      done = [];
      many = refl;
      room = omega arith;
      far = omega arith;
      ahead = rw z;
      bytes = rw z (omega arith);
      sound = g;
      session = e;
      answers = refl;
    }

-- what is left of a log, with one call run
module _ (log : List ℕ) (N n at : ℕ) (less : n < N) (whole : starts (drop at log) ≡ true) where
  left : N - n ≡ suc (N - (n + 1))
  left = omega arith

  rest : drop (at + (3 + size_of (drop at log))) log ≡ onward (drop at log)
  unfolding onward
  rest = sym (drop-drop (3 + size_of (drop at log)) at log)

  calls-next : calls_in (N - n) (drop at log) ≡ first_call (drop at log) ∷ calls_in (N - (n + 1)) (drop (at + (3 + size_of (drop at log))) log)
  unfolding calls_in
  calls-next = rw (left, whole, rest)

  bytes_next : bytes_in (N - n) (drop at log) ≡ 3 + size_of (drop at log) + bytes_in (N - (n + 1)) (drop (at + (3 + size_of (drop at log))) log)
  unfolding bytes_in
  bytes_next = rw (left, whole, rest)

-- an answer is written down as the book's
word-told : (word : ℕ) (a : Response) (t : D.Answer) → word ≡ answer_word a → a ≡ told t → word ≡ word_of t
unfolding word_of
word-told word a t e q = e ∙ ap answer_word q

running-one : (b : Book) (log : List ℕ) (N : ℕ) (old : List ℕ) (s : Session) (at n : ℕ) (words : List ℕ) (word : ℕ) (r : Effect)
    → Running b log N old s at n words → n < length old → N ≡ length old → starts (drop at log) ≡ true → at + (3 + size_of (drop at log)) ≤ length log
    → Met s (first_call (drop at log)) r → word ≡ answer_word r.answer
    → Running b log N old r.session (at + (3 + size_of (drop at log))) (n + 1) (set words n word)
unfolding first_call
running-one b log N old s at n words word r w less same whole fits met ew =
    let c = first_call (drop at log) in
    let book = D.after b w.done in
    let m : As (D.effect book c) r.answer r.session = met.book book w.sound w.session in
    let front = map word_of (D.answers b w.done) in
    let long : length front ≡ n = length-map (D.answers b w.done) word_of ∙ (answers-many b w.done ∙ w.many) in
    record {
      done = w.done ++ (c ∷ []);
      many = length-append w.done (c ∷ []) ∙ omega (arith, w.many);
      room = omega arith;
      far = fits;
      ahead = w.ahead ∙ (ap (λ (t : List D.Call). w.done ++ t) (calls-next log N n at (omega arith) whole) ∙ sym (append_assoc w.done (c ∷ []) _));
      bytes = w.bytes ∙ omega (arith, bytes_next log N n at (omega arith) whole);
      sound = rw (after_last b w.done c) (effect-sound book c (logged-typed _ _) w.sound);
      session = rw (after_last b w.done c) m.session;
      answers =
          rw (w.answers, answers-last b w.done c, map_last word_of (D.answers b w.done) (D.effect book c).answer, ← (word-told word r.answer (D.effect book c).answer ew m.answer))
          (set-behind front old n word long less);
    }

pub running-next : (b : Book) (log : List ℕ) (N : ℕ) (old : List ℕ) (s : Session) (at n : ℕ) (words : List ℕ) (k size word : ℕ) (p : List ℕ) (r : Effect)
    → Running b log N old s at n words → n < length old → N ≡ length old → starts (drop at log) ≡ true
    → k ≡ get_or (drop at log) 0 0 → size ≡ size_of (drop at log) → p ≡ take size (drop 3 (drop at log)) → at + (3 + size) ≤ length log
    → Met s (call_of k p) r → word ≡ answer_word r.answer
    → Running b log N old r.session (at + (3 + size)) (n + 1) (set words n word)
unfolding first_call
running-next b log N old s at n words k size word p r w less same whole ek es ep fits met ew =
    let e : call_of k p ≡ first_call (drop at log) = rw (ep, ek, es) in
    rw es (running-one b log N old s at n words word r w less same whole (rw es at fits) (met-as s _ _ r e met) ew)

-- all of a record is there
pub record-fits : (l : List ℕ) → starts l ≡ true → 3 + size_of l ≤ length l
unfolding starts
record-fits l h = leb-true (3 + size_of l) (length l) (both (leb (3 + size_of l) (length l)) _ h).0

-- so it ends within the log
pub record-inside : (log : List ℕ) (at size : ℕ) {A : Type 0} → at ≤ length log → (starts (drop at log) ≡ true) × A × (size ≡ size_of (drop at log)) → at + 3 + size ≤ length log
record-inside log at size l head = omega (arith, record-fits (drop at log) head.0, length-drop at log, head.2)

-- the same as the code has it: the record's bytes stand from `at + 3` on
pub running-on : (b : Book) (log : List ℕ) (old : List ℕ) (s : Session) (at n : ℕ) (words : List ℕ) (k size word : ℕ) (p : List ℕ) (r : Effect)
    → Running b log (length old) old s at n words → n < length old
    → (starts (drop at log) ≡ true) × (k ≡ get_or (drop at log) 0 0) × (size ≡ size_of (drop at log))
    → p ≡ take (at + 3 + size - (at + 3)) (drop (at + 3) log)
    → Met s (call_of k p) r → word ≡ answer_word r.answer
    → Running b log (length old) old r.session (at + 3 + size) (n + 1) (set words n word)
running-on b log old s at n words k size word p r w less head ep met ew =
    let e : at + 3 + size ≡ at + (3 + size) = omega arith in
    let z : at + 3 + size - (at + 3) ≡ size = omega arith in
    let q : p ≡ take size (drop 3 (drop at log)) = ep ∙ rw (z, drop-drop 3 at log) refl in
    let f : at + (3 + size) ≤ length log = omega (arith, record-fits (drop at log) head.0, head.2, length-drop at log, w.far) in
    rw e (running-next b log (length old) old s at n words k size word p r w less refl head.0 head.1 head.2 q f met ew)

-- The end

module _ (b : Book) (log : List ℕ) (N : ℕ) (old words : List ℕ) (s : Session) (at n : ℕ) (w : Running b log N old s at n words) where
  ended : calls_in (N - n) (drop at log) ≡ [] → bytes_in (N - n) (drop at log) ≡ 0 → Reruns b log N old words (record { session = s; calls = n; read = at })
  ended none_left no_bytes =
      let all : calls_in N log ≡ w.done = w.ahead ∙ (ap (λ (t : List D.Call). w.done ++ t) none_left ∙ append-nil w.done) in
      record {
        calls = rw all (sym w.many);
        read = sym (w.bytes ∙ omega (arith, no_bytes));
        session = rw all w.session;
        answers = rw all w.answers;
      }

  -- there is room for no more
  pub ended-full : N ≤ n → Reruns b log N old words (record { session = s; calls = n; read = at })
  unfolding calls_in bytes_in
  ended-full h = let z : N - n ≡ 0 = omega arith in ended (rw z) (rw z)

  -- what follows is no call
  pub ended-stopped : false ≡ starts (drop at log) → Reruns b log N old words (record { session = s; calls = n; read = at })
  ended-stopped h = ended (no-calls (N - n) (drop at log) h) (no-call-bytes (N - n) (drop at log) h)

-- from the session that opening gave
pub replays-opened : (d : Date) (log : List ℕ) (N : ℕ) (old words : List ℕ) (o : Opened) (r : Reached) → Opens d o → ReplaysOn o.session log N old words r
    → Replays d log N old words (record { opened = o.answer; run = r })
replays-opened d log N old words o r p w = record { opened = p.answer; run = w.book (D.opening d).book (opening-sound d) p.session }
