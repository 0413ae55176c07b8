-- Which call a record says, by its kind.
use Prim.Native.Nat.{ℕ}
use mathlib.Core.Path.{◌≡◌, refl, ap, sym}
use mathlib.Core.Bool.{Bool, true, false, cond}
use mathlib.Core.List.{List}
use Rattle.rules.specs.Units.{TradingUnit, Capacities}
use Rattle.rules.specs.Message.{Key}
use Rattle.rules.specs.DayBook as D
use Rattle.message_bits.specs.Bits.{word_at}
use Rattle.session.specs.Laid.{counted}
use Rattle.session.specs.Steps.{Met}
use Rattle.session.specs.declared.Session.{Session}
use Rattle.session.specs.declared.Effect.{Effect}
use Rattle.book_log.specs.declared.Kind.{Kind}
use Rattle.book_log.specs.Kinds.{number_of}
use Rattle.book_log.specs.Calls.{call_of, unit_of, key_of, directions_of, mark_at, numbers_at}

pub met-as : (s : Session) (c d : D.Call) (r : Effect) → c ≡ d → Met s c r → Met s d r
met-as s c d r e m = rw (sym e) m

-- a record's call is that of its kind
pub of-kind : (s : Session) (k n : Kind) (p : List ℕ) (r : Effect) → k ≡ n → Met s (call_of (number_of n) p) r → Met s (call_of (number_of k) p) r
of-kind s k n p r e m = rw e m

module _ (p : List ℕ) where
  pub call-1 : (marked : Bool) (u : TradingUnit) → u ≡ unit_of marked p → D.register u ≡ call_of (cond marked 9 1) p
  unfolding call_of
  call-1 false u e = ap D.register e
  call-1 true u e = ap D.register e

  pub call-2 : (cs : Capacities) → cs ≡ directions_of p → D.capacity cs ≡ call_of 2 p
  unfolding call_of
  call-2 cs e = ap D.capacity e

  pub call-3 : (n m : ℕ) (es : List ℕ) → n ≡ word_at p 0 → m ≡ word_at p 4 → es ≡ numbers_at p 8 → D.available n (counted m es) ≡ call_of 3 p
  unfolding call_of
  call-3 n m es x y z = rw (x, y, z)

  pub call-4 : D.lodge p ≡ call_of 4 p
  unfolding call_of
  call-4 = refl

  pub call-5 : (key : Key) → key ≡ key_of p → D.annul key ≡ call_of 5 p
  unfolding call_of
  call-5 key e = ap D.annul e

  pub call-6 : D.close ≡ call_of 6 p
  unfolding call_of
  call-6 = refl

  pub call-7 : D.clear ≡ call_of 7 p
  unfolding call_of
  call-7 = refl

  pub call-8 : (n m : ℕ) (purchase : Bool) (es : List ℕ) → n ≡ word_at p 0 → purchase ≡ mark_at p 4 → m ≡ word_at p 5 → es ≡ numbers_at p 9
      → D.rights n purchase (counted m es) ≡ call_of 8 p
  unfolding call_of
  call-8 n m purchase es x w y z = rw (x, w, y, z)

  pub call-10 : (border l : ℕ) → border ≡ word_at p 0 → l ≡ word_at p 4 → D.loss border l ≡ call_of 10 p
  unfolding call_of
  call-10 border l x y = rw (x, y)
