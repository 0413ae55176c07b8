-- The call log: a call's record, and the calls of a log.
use Rattle.std.specs.Prelude.{ℕ, zero, suc, ◌+◌, ◌*◌, min, Bool, true, false, cond, not, ◌&&◌, List, [], ◌∷◌, map, eqb, leb, get_or, take, drop, length}
use Rattle.std.proofs.Math.Option.{some, none}
use Rattle.rules.specs.Lists.{from}
use Rattle.rules.specs.Units.{TradingUnit, Published, Capacities}
use Rattle.rules.specs.Message.{Key}
use Rattle.rules.specs.Borders.{positive}
use Rattle.rules.specs.DayBook.{Call, register, capacity, available, rights, loss, lodge, annul, close, clear}
use Rattle.message_bits.specs.Bits.{word_at}
use Rattle.answer.specs.declared.Response.{Response}
use Rattle.session.specs.Laid.{counted}

-- What a record's bytes say

-- a mark is a byte, 0 for no
unfoldable pub mark_at : List ℕ → ℕ → Bool
mark_at p i = not (eqb (get_or p i 0) 0)

-- the k-th number of four bytes from index i on
unfoldable pub number_in : List ℕ → ℕ → ℕ → ℕ
number_in p i k = word_at p (i + k * 4)

-- 25 of them
unfoldable pub numbers_at : List ℕ → ℕ → List ℕ
numbers_at p i = map (number_in p i) (from 0 25)

-- number, agent, border, side (1 for a purchase), maximum, legacy mark; the mark "with rights" is the kind's
unfoldable pub unit_of : Bool → List ℕ → TradingUnit
unit_of marked p = record {
  number = word_at p 0;
  agent = word_at p 4;
  border = word_at p 8;
  purchase = mark_at p 12;
  maximum = word_at p 13;
  legacy = mark_at p 17;
  rights = marked;
}

-- kind (1 for an execution), default mark, unit, contract
unfoldable pub key_of : List ℕ → Key
key_of p = record { execution = mark_at p 0; default = mark_at p 1; unit = word_at p 2; contract = word_at p 6 }

-- a mark (0 for absent), the count of energies, 25 of them
unfoldable pub direction_at : List ℕ → ℕ → Published
direction_at p i = cond (mark_at p i) (some (counted (word_at p (i + 1)) (numbers_at p (i + 5)))) none

unfoldable pub direction_in : List ℕ → ℕ → Published
direction_in p k = direction_at p (k * 105)

unfoldable pub directions_of : List ℕ → Capacities
directions_of p = map (direction_in p) (from 0 8)

-- Records

-- whether the count of bytes that follow is that of the kind: register, capacity, available, lodge (a
-- message of any length), annul, close, clear, rights, register with the mark, loss
unfoldable pub is_call : ℕ → ℕ → Bool
is_call kind size =
    cond (eqb kind 1) (eqb size 18)
    (cond (eqb kind 2) (eqb size 840)
    (cond (eqb kind 3) (eqb size 108)
    (cond (eqb kind 4) true
    (cond (eqb kind 5) (eqb size 10)
    (cond (eqb kind 6) (eqb size 0)
    (cond (eqb kind 7) (eqb size 0)
    (cond (eqb kind 8) (eqb size 109)
    (cond (eqb kind 9) (eqb size 18)
    (eqb kind 10 && eqb size 8)))))))))

-- the call that the bytes say, of a kind and count that `is_call` admits
unfoldable pub call_of : ℕ → List ℕ → Call
call_of kind p =
    cond (eqb kind 1) (register (unit_of false p))
    (cond (eqb kind 2) (capacity (directions_of p))
    (cond (eqb kind 3) (available (word_at p 0) (counted (word_at p 4) (numbers_at p 8)))
    (cond (eqb kind 4) (lodge p)
    (cond (eqb kind 5) (annul (key_of p))
    (cond (eqb kind 6) close
    (cond (eqb kind 7) clear
    (cond (eqb kind 8) (rights (word_at p 0) (mark_at p 4) (counted (word_at p 5) (numbers_at p 9)))
    (cond (eqb kind 9) (register (unit_of true p))
    (loss (word_at p 0) (word_at p 4))))))))))

-- the bytes that follow a record's head of three: its kind, and their count in two
unfoldable pub size_of : List ℕ → ℕ
size_of log = get_or log 1 0 * 256 + get_or log 2 0

-- whether a log starts with the whole record of a call
unfoldable pub starts : List ℕ → Bool
starts log = leb (3 + size_of log) (length log) && is_call (get_or log 0 0) (size_of log)

unfoldable pub first_call : List ℕ → Call
first_call log = call_of (get_or log 0 0) (take (size_of log) (drop 3 log))

unfoldable pub onward : List ℕ → List ℕ
onward log = drop (3 + size_of log) log

-- the calls of a log, n at most: as far as its records are those of calls
unfoldable pub calls_in : ℕ → List ℕ → List Call
calls_in zero log = []
calls_in (suc n) log = cond (starts log) (first_call log ∷ calls_in n (onward log)) []

-- and how many bytes their records have
unfoldable pub bytes_in : ℕ → List ℕ → ℕ
bytes_in zero log = 0
bytes_in (suc n) log = cond (starts log) (3 + size_of log + bytes_in n (onward log)) 0

-- a call's answer as one number: its kind, and what it says below: nothing, row and hour, a lodging number, or steps (a day's are at
-- most 25 times 128 times 99,999)
unfoldable pub answer_word : Response → ℕ
answer_word r =
    cond (eqb r.kind 1) (1152921504606846976 + (r.row * 256 + r.hour))
    (cond (eqb r.kind 2) (2 * 1152921504606846976 + min (positive r.value) 1152921504606846975)
    (cond (eqb r.kind 3) (3 * 1152921504606846976 + min r.count 1152921504606846975)
    0))
