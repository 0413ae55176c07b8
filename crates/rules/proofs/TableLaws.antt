-- The rows of every call and query stand in the table's order, and the first that applies is given.
use Prim.Native.Nat.{ℕ, ◌≤◌, ◌<◌}
use mathlib.Core.Path.{◌≡◌, refl, ap, sym, ◌∙◌}
use mathlib.Core.Bool.{Bool, true, false, ◌&&◌}
use mathlib.Core.List.{List, [], ◌∷◌, map}
use mathlib.Core.Option.{Option, some, none as nothing}
use native.Mathlib.Omega.{arith}
use lib.Dec.{leb, ltb}
use lib.ListN.{length}
use borrow.Author.Tests.{leb-true, ltb-true}
use Rattle.rules.specs.Lists.{All, none, more, here, there, Pairwise, empty, ahead}
use Rattle.rules.specs.Refusals.{Row, row, limit_row, first_row, table_order, place_in, place_of, refused, unless, outcome}
use Rattle.rules.specs.Hours.{Date, date_row, hours_at, clock_rows, clock_at, hour_rows, hour_at}
use Rattle.rules.specs.Units.{Registered, Lines, maximum_limit, available_limit, border_limit, rights_limit, own_limits, border_limits, limits}
use Rattle.rules.specs.Message.{read_rows, read, write_rows, write, message_of}
use Rattle.rules.specs.Lodging.{limit_rows, judged_by}
use Rattle.rules.specs.Book.{Book}
use Rattle.rules.specs.Queries.{Query, verdict, matched, executed, market, bilateral, market_max, bilateral_max, price, figure_rows, unit_rows, border_rows, query_rows, query}
use Rattle.rules.specs.DayBook.{Call, register, capacity, available, rights, loss, lodge, annul, close, clear, Answer, refusal, done, numbered, steps, change_row, gate_row, lodge_rows, call_rows, rows_of, reply, effect_of, effect, opened_with, opening}
use Rattle.rules.specs.Table.{Ordered, RefusedBy, Refuses, InTableOrder}
use Rattle.rules.proofs.BoolLaws.{by_bool, both, not-both}
use Rattle.rules.proofs.ListLaws.{all_map}
use Rattle.rules.proofs.RefusalLaws.{given-row, accepted-rows}

-- Rows in order, by a test of their places

-- each number is within the table and above the one before
unfoldable rise : ℕ → List ℕ → Bool
rise p [] = true
rise p (q ∷ qs) = ltb p q && leb q (length table_order) && rise q qs

rise-facts : (p q : ℕ) (qs : List ℕ) → rise p (q ∷ qs) ≡ true → (p < q) × (q ≤ length table_order) × (rise q qs ≡ true)
unfolding rise
rise-facts p q qs h =
    let a = both (ltb p q && leb q (length table_order)) (rise q qs) h in
    let b = both (ltb p q) (leb q (length table_order)) a.0 in
    (ltb-true p q b.0, leb-true q (length table_order) b.1, a.1)

rise-above : {A : Type 0} (f : A → ℕ) (p : ℕ) (xs : List A) → rise p (map f xs) ≡ true → All (λ x. p < f x) xs
rise-above f p [] h = none
rise-above f p (x ∷ xs) h =
    let a = rise-facts p (f x) (map f xs) h in
    more {x = x} a.0 (all_map (λ q k. omega (arith, a.0, k)) (rise-above f (f x) xs a.2))

rise-pairs : {A : Type 0} (f : A → ℕ) (p : ℕ) (xs : List A) → rise p (map f xs) ≡ true → Pairwise (λ x y. f x < f y) xs
rise-pairs f p [] h = empty
rise-pairs f p (x ∷ xs) h =
    let a = rise-facts p (f x) (map f xs) h in
    ahead (rise-above f (f x) xs a.2) (rise-pairs f (f x) xs a.2)

rise-known : (p : ℕ) (rows : List Row) → rise p (map place_of rows) ≡ true → All (λ r. place_of r ≤ length table_order) rows
rise-known p [] h = none
rise-known p (r ∷ rows) h =
    let a = rise-facts p (place_of r) (map place_of rows) h in
    more {x = r} a.1 (rise-known (place_of r) rows a.2)

rise-ordered : (p : ℕ) (rows : List Row) → rise p (map place_of rows) ≡ true → Ordered rows
rise-ordered p rows h = record { known = rise-known p rows h; rising = rise-pairs place_of p rows h }

-- Each call's

lodge-ordered : (r2 r3 r4 r5 r6 r9 : Bool) (H : ℕ) (named : List ℕ) (load : ℕ → ℕ) (ls : Lines) (r : Registered) (default : Bool)
    → Ordered (row 2 r2 ∷ row 3 r3 ∷ row 4 r4 ∷ row 5 r5 ∷ row 6 r6 ∷ row 9 r9 ∷ limit_rows H named load (judged_by ls r default))
unfolding rise row limit_row place_of place_in table_order limit_rows judged_by limits own_limits border_limits maximum_limit available_limit border_limit rights_limit
lodge-ordered r2 r3 r4 r5 r6 r9 H named load ls r true = rise-ordered 0 _ refl
lodge-ordered r2 r3 r4 r5 r6 r9 H named load ls r false = rise-ordered 0 _ refl

call-ordered : (b : Book) (c : Call) → Ordered (rows_of b c)
unfolding rise row place_of place_in table_order rows_of gate_row change_row call_rows lodge_rows
call-ordered b (register u) = rise-ordered 0 _ refl
call-ordered b (capacity cs) = rise-ordered 0 _ refl
call-ordered b (available n es) = rise-ordered 0 _ refl
call-ordered b (rights agent purchase es) = rise-ordered 0 _ refl
call-ordered b (loss border l) = rise-ordered 0 _ refl
call-ordered b (lodge bytes) = lodge-ordered _ _ _ _ _ _ _ _ _ _ _ (message_of bytes).key.default
call-ordered b (annul k) = rise-ordered 0 _ refl
call-ordered b close = rise-ordered 0 _ refl
call-ordered b clear = rise-ordered 0 _ refl

query-ordered : (b : Book) (q : Query) → Ordered (query_rows b q)
unfolding rise row place_of place_in table_order query_rows figure_rows unit_rows border_rows
query-ordered b (verdict n) = rise-ordered 0 _ refl
query-ordered b (matched u h) = rise-ordered 0 _ refl
query-ordered b (executed u h) = rise-ordered 0 _ refl
query-ordered b (market border h) = rise-ordered 0 _ refl
query-ordered b (bilateral border h) = rise-ordered 0 _ refl
query-ordered b (market_max border export h) = rise-ordered 0 _ refl
query-ordered b (bilateral_max border export h) = rise-ordered 0 _ refl
query-ordered b (price h) = rise-ordered 0 _ refl

-- The row that is given

-- those after a row follow it in the table
behind : {r : Row} {rows : List Row} → Ordered (r ∷ rows) → All (λ q. place_of r < place_of q) rows × Ordered rows
behind {r} {rows} o = go o.known o.rising
  where
    go : All (λ q. place_of q ≤ length table_order) (r ∷ rows) → Pairwise (λ p q. place_of p < place_of q) (r ∷ rows) → All (λ q. place_of r < place_of q) rows × Ordered rows
    go (more k ks) (ahead a t) = (a, record { known = ks; rising = t })

-- the first that applies is the table's first that does
refused-by : (rows : List Row) (r : Row) (n h : ℕ) → Ordered rows → first_row rows ≡ some r → r.number ≡ n → r.hour ≡ h → RefusedBy rows n h
unfolding first_row
refused-by [] r n h o f e d = let z : ◌≡◌ {A = ℕ} 0 1 = cc in absurd (omega arith)
refused-by (q ∷ rows) r n h o f e d =
    by_bool q.applies
    (λ t.
    let same = given-row q r rows t f in
    let place : place_of q ≡ place_of r = ap place_of same in
    record {
      given = r;
      number = e;
      hour = d;
      among = here same;
      applies = ap (λ (k : Row). k.applies) (sym same) ∙ t;
      first = more {x = q} (λ u. omega (arith, place)) (all_map (λ x k u. omega (arith, place, k)) (behind o).0);
    })
    (λ t.
    let rest = refused-by rows r n h (behind o).1 (rw t at f) e d in
    record {
      given = rest.given;
      number = rest.number;
      hour = rest.hour;
      among = there rest.among;
      applies = rest.applies;
      first = more {x = q} (λ u. not-both u t) rest.first;
    })

-- what is refused by the first row that applies, if one does, and by nothing is of no row that applies
no-row : (rows : List Row) (Refused : ℕ → ℕ → Type 0) → ((r : Row) → first_row rows ≡ some r → Refused r.number r.hour) → ((n h : ℕ) → Refused n h → ⊥) → All (λ r. r.applies ≡ false) rows
no-row rows Refused by-first un = go (first_row rows) refl
  where
    go : (o : Option Row) → first_row rows ≡ o → All (λ r. r.applies ≡ false) rows
    go nothing e = accepted-rows rows e
    go (some r) e = absurd (un r.number r.hour (by-first r e))

-- an accepted call is answered by no refusal
abbrev refuses : Answer → ℕ
refuses (refusal n h) = 1
refuses done = 0
refuses (numbered n) = 0
refuses (steps n) = 0

accepted-reply : (b : Book) (c : Call) → refuses (reply b c) ≡ 0
unfolding reply
accepted-reply b (register u) = refl
accepted-reply b (capacity cs) = refl
accepted-reply b (available n es) = refl
accepted-reply b (rights agent purchase es) = refl
accepted-reply b (loss border l) = refl
accepted-reply b (lodge bytes) = refl
accepted-reply b (annul k) = refl
accepted-reply b close = refl
accepted-reply b clear = refl

refused-call : (b : Book) (c : Call) (n h : ℕ) → (effect b c).answer ≡ refusal n h → RefusedBy (rows_of b c) n h
unfolding effect effect_of
refused-call b c n h e = go (first_row (rows_of b c)) refl e
  where
    go : (o : Option Row) → first_row (rows_of b c) ≡ o → (effect_of b c o).answer ≡ refusal n h → RefusedBy (rows_of b c) n h
    go nothing f e = let z : ◌≡◌ {A = ℕ} 0 1 = sym (accepted-reply b c) ∙ ap refuses e in absurd (omega arith)
    go (some r) f e = refused-by (rows_of b c) r n h (call-ordered b c) f (cc) (cc)

call-refused : (b : Book) (c : Call) (r : Row) → first_row (rows_of b c) ≡ some r → (effect b c).answer ≡ refusal r.number r.hour
unfolding effect effect_of
call-refused b c r e = rw e refl

-- a value that is asked for
refused-outcome : {A : Type 0} (rows : List Row) (a : A) → Ordered rows → Refuses rows (λ n h. outcome rows a ≡ refused n h)
unfolding outcome unless
refused-outcome {A} rows a o =
    record { ordered = o; first = λ n h e. go n h (first_row rows) refl e; unrefused = no-row rows (λ n h. outcome rows a ≡ refused n h) (λ r e. rw e refl) }
  where
    go : (n h : ℕ) (f : Option Row) → first_row rows ≡ f → unless f a ≡ refused n h → RefusedBy rows n h
    go n h nothing f e = let z : ◌≡◌ {A = ℕ} 0 1 = cc in absurd (omega arith)
    go n h (some r) f e = refused-by rows r n h o f (cc) (cc)

-- opening: a date that is one is answered by no refusal
refused-opening : (d : Date) → Ordered (date_row d ∷ []) → Refuses (date_row d ∷ []) (λ n h. (opening d).answer ≡ refusal n h)
unfolding opening opened_with
refused-opening d o =
    record {
      ordered = o;
      first = λ n h e. go n h (first_row (date_row d ∷ [])) refl e;
      unrefused = no-row (date_row d ∷ []) (λ n h. (opening d).answer ≡ refusal n h) (λ r e. rw e refl);
    }
  where
    go : (n h : ℕ) (f : Option Row) → first_row (date_row d ∷ []) ≡ f → (opened_with d f).answer ≡ refusal n h → RefusedBy (date_row d ∷ []) n h
    go n h nothing f e = let z : ◌≡◌ {A = ℕ} 0 1 = ap refuses e in absurd (omega arith)
    go n h (some r) f e = refused-by (date_row d ∷ []) r n h o f (cc) (cc)

pub in-table-order : InTableOrder
unfolding rise row limit_row place_of place_in table_order date_row clock_rows hour_rows limit_rows limits own_limits border_limits maximum_limit available_limit border_limit rights_limit read_rows write_rows hours_at clock_at hour_at read write query
in-table-order =
    record {
      opens = λ d. refused-opening d (rise-ordered 0 _ refl);
      hours = λ d. refused-outcome _ _ (rise-ordered 0 (date_row d ∷ []) refl);
      clocks = λ d hour. refused-outcome _ _ (rise-ordered 0 (clock_rows d hour) refl);
      names = λ d c. refused-outcome _ _ (rise-ordered 0 (hour_rows d c) refl);
      reading = λ bytes. refused-outcome _ _ (rise-ordered 0 (read_rows bytes) refl);
      writing = λ room m. refused-outcome _ _ (rise-ordered 0 (write_rows room m) refl);
      calls = λ b c. record { ordered = call-ordered b c; first = refused-call b c; unrefused = no-row (rows_of b c) (λ n h. (effect b c).answer ≡ refusal n h) (call-refused b c) };
      queries = λ b q. refused-outcome _ _ (query-ordered b q);
      verdicts = λ H named load ls r. rise-ordered 0 _ refl;
    }
