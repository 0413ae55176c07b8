-- "Day book": calls, their refusals in the table's order, and what an accepted call does.
use Rattle.std.specs.Prelude.{ℕ, suc, Bool, true, cond, not, ◌&&◌, ◌||◌, List, [], ◌∷◌, ◌++◌, map, leb, eqb, length, set}
use Rattle.std.proofs.Math.Option.{Option, some, none}
use Rattle.rules.specs.Lists.{any, first}
use Rattle.rules.specs.Refusals.{Row, row, first_row}
use Rattle.rules.specs.Hours.{Date, date_row}
use Rattle.rules.specs.Units.{TradingUnit, Registered, Capacities, bad_unit, bad_number, bad_loss, bad_energies, bad_published, not_of_hours, is_second_to, french, french_of, has_number, nobody, is_registered, unit_of}
use Rattle.rules.specs.Message.{Key, Fields, message_of, wrong_form, bad_map, bad_key, wrong_range}
use Rattle.rules.specs.Lodging.{Lodgement, stands, without, judged_at, judged_by, limit_rows, names_beyond, domestic_execution}
use Rattle.rules.specs.Book.{Book, hours, lines_of, fresh}
use Rattle.rules.specs.Clearing.{day_steps}

-- "registering, notices, lodging, annulling, closing and clearing"; K2: "lists that set losses too"
pub data Call : Type 0 where
  register : TradingUnit → Call
  capacity : Capacities → Call
  available : ℕ → List ℕ → Call  -- an unavailability notice: a unit's number and its available energies
  rights : ℕ → Bool → List ℕ → Call  -- a rights notice: an agent, a side (true for purchases) and its energies
  loss : ℕ → ℕ → Call  -- K2: a border, and the loss that it gets
  lodge : List ℕ → Call  -- "Lodging takes a message's bytes."
  annul : Key → Call
  close : Call
  clear : Call

pub data Answer : Type 0 where
  refusal : ℕ → ℕ → Answer  -- number and hour: "Other fields of a refusal are 0"
  done : Answer
  numbered : ℕ → Answer  -- "takes and answers the next lodging number"
  steps : ℕ → Answer  -- clearing "answers the step count"

-- Refusals, in the table's order

-- 2, gate: "a change after closing"
unfoldable pub change_row : Book → Row
change_row b = row 2 b.closed

-- 6, unit: "unregistered"
unfoldable pub unregistered : Book → ℕ → Bool
unregistered b n = not (is_registered b.units n)

-- 6, unit, of a key: "unregistered, or domestic for an execution"
unfoldable pub bad_holder : Book → Key → Bool
bad_holder b k = unregistered b k.unit || domestic_execution k (unit_of b.units k.unit).unit

-- 8, second: "agent has that border (1 to 4) and side"; K1: "number 8 counts marked and unmarked units apart"
unfoldable pub is_second : Book → TradingUnit → Bool
is_second b u = any (λ r. is_second_to u r.unit) b.units

-- 6, unit: "the agent has no French unit on that side"
unfoldable pub no_french : Book → ℕ → Bool → Bool
no_french b agent purchase = not (any (λ r. french_of agent purchase r.unit) b.units)

-- an unmarked French unit of this agent and side
unfoldable pub is_partner : ℕ → Bool → Registered → Bool
is_partner agent purchase r = french_of agent purchase r.unit && not r.unit.rights

-- 15, rights: a marked unit that "has no unmarked partner"
unfoldable pub no_partner : Book → TradingUnit → Bool
no_partner b u = u.rights && not (any (is_partner u.agent u.purchase) b.units)

-- 9, full: "64 units"
unfoldable pub units_full : Book → Bool
units_full b = leb 64 (length b.units)

-- 9, full: "128 lodgements and none of this key; 65,535 accepted"
unfoldable pub full : Book → Key → Bool
full b k = (leb 128 (length b.standing) && not (stands b.standing k)) || leb 65535 b.last

-- 2, gate: whether the book is at the stage that the call asks for
unfoldable pub gate_row : Book → Call → Row
gate_row b (register u) = change_row b
gate_row b (capacity cs) = change_row b
gate_row b (available n es) = change_row b
gate_row b (rights agent purchase es) = change_row b
gate_row b (loss border l) = change_row b  -- "set before closing"
gate_row b (lodge bytes) = change_row b
gate_row b (annul k) = change_row b
gate_row b close = change_row b  -- "closing [..] twice"
gate_row b clear = row 2 (not b.closed || b.cleared)  -- "clearing [..] before closing", "clearing twice"

unfoldable pub lodge_rows : Book → List ℕ → List Row
lodge_rows b bytes =
    let m = message_of bytes in
    row 3 (wrong_form bytes)
    ∷ row 4 (bad_map m.map || names_beyond (hours b) m.map)
    ∷ row 5 (wrong_range bytes)
    ∷ row 6 (bad_holder b m.key)
    ∷ row 9 (full b m.key)
    ∷ limit_rows (hours b) m.energies (judged_at b.standing m)
    (judged_by (lines_of b) (unit_of b.units m.key.unit) m.key.default)

-- the call's own rows, after the gate's
unfoldable pub call_rows : Book → Call → List Row
call_rows b (register u) =
    row 5 (bad_unit u) ∷ row 7 (is_registered b.units u.number) ∷ row 8 (is_second b u) ∷ row 9 (units_full b) ∷ row 15 (no_partner b u) ∷ []
call_rows b (capacity cs) = row 4 (any (not_of_hours (hours b)) cs) ∷ row 5 (any bad_published cs) ∷ []
call_rows b (available n es) =
    row 4 (not (eqb (length es) (hours b))) ∷ row 5 (bad_number n || bad_energies es) ∷ row 6 (unregistered b n) ∷ []
call_rows b (rights agent purchase es) =
    row 4 (not (eqb (length es) (hours b))) ∷ row 5 (bad_number agent || bad_energies es) ∷ row 6 (no_french b agent purchase) ∷ []
call_rows b (loss border l) = row 5 (bad_loss border l) ∷ []
call_rows b (lodge bytes) = lodge_rows b bytes
call_rows b (annul k) = row 5 (bad_key k) ∷ row 6 (bad_holder b k) ∷ row 13 (not (stands b.standing k)) ∷ []
call_rows b close = []
call_rows b clear = []

unfoldable pub rows_of : Book → Call → List Row
rows_of b c = gate_row b c ∷ call_rows b c

-- The book after an accepted call

unfoldable pub with_units : Book → List Registered → Book
with_units b us = record {
  date = b.date;
  units = us;
  capacities = b.capacities;
  standing = b.standing;
  last = b.last;
  closed = b.closed;
  cleared = b.cleared;
  losses = b.losses;
}

unfoldable pub with_capacities : Book → Capacities → Book
with_capacities b cs = record {
  date = b.date;
  units = b.units;
  capacities = cs;
  standing = b.standing;
  last = b.last;
  closed = b.closed;
  cleared = b.cleared;
  losses = b.losses;
}

unfoldable pub with_standing : Book → List Lodgement → ℕ → Book
with_standing b standing last = record {
  date = b.date;
  units = b.units;
  capacities = b.capacities;
  standing = standing;
  last = last;
  closed = b.closed;
  cleared = b.cleared;
  losses = b.losses;
}

unfoldable pub with_stage : Book → Bool → Bool → Book
with_stage b closed cleared = record {
  date = b.date;
  units = b.units;
  capacities = b.capacities;
  standing = b.standing;
  last = b.last;
  closed = closed;
  cleared = cleared;
  losses = b.losses;
}

unfoldable pub with_losses : Book → List ℕ → Book
with_losses b losses = record {
  date = b.date;
  units = b.units;
  capacities = b.capacities;
  standing = b.standing;
  last = b.last;
  closed = b.closed;
  cleared = b.cleared;
  losses = losses;
}

-- the notice of unit n put in the place of its earlier one
unfoldable pub notify : ℕ → List ℕ → Registered → Registered
notify n es r = record { unit = r.unit; available = cond (has_number n r) (some es) r.available; rights = r.rights }

-- the rights of an agent's French units of a side put in the place of the earlier ones
unfoldable pub grant : ℕ → Bool → List ℕ → Registered → Registered
grant agent purchase es r =
    record { unit = r.unit; available = r.available; rights = cond (french_of agent purchase r.unit) (some es) r.rights }

-- those that a new French unit has: of its agent and side
unfoldable pub rights_on_side : List Registered → TradingUnit → Option (List ℕ)
rights_on_side us u = cond (french u) (first (λ r. french_of u.agent u.purchase r.unit) nobody us).rights none

unfoldable pub entry : Fields → ℕ → Lodgement
entry m n = record { key = m.key; number = n; energies = m.energies; prices = m.prices }

-- "registering adds the unit", with the rights of its agent and side; "a notice replaces its earlier one; lodging drops any lodgement of its key, enters its own
-- under the next number [..]; annulling drops the key's lodgement". A loss replaces that of its border.
unfoldable pub applied : Book → Call → Book
applied b (register u) = with_units b (b.units ++ (record { unit = u; available = none; rights = rights_on_side b.units u } ∷ []))
applied b (capacity cs) = with_capacities b cs
applied b (available n es) = with_units b (map (notify n es) b.units)
applied b (rights agent purchase es) = with_units b (map (grant agent purchase es) b.units)
applied b (loss border l) = with_losses b (set b.losses border l)
applied b (lodge bytes) =
    let m = message_of bytes in
    with_standing b (without m.key b.standing ++ (entry m (suc b.last) ∷ [])) (suc b.last)
applied b (annul k) = with_standing b (without k b.standing) b.last
applied b close = with_stage b true b.cleared
applied b clear = with_stage b b.closed true

-- lodging "answers that" number; clearing "answers the step count"
unfoldable pub reply : Book → Call → Answer
reply b (register u) = done
reply b (capacity cs) = done
reply b (available n es) = done
reply b (rights agent purchase es) = done
reply b (loss border l) = done
reply b (lodge bytes) = numbered (suc b.last)
reply b (annul k) = done
reply b close = done
reply b clear = steps (day_steps b)

pub record Effect : Type 0 where
  pub book : Book
  pub answer : Answer

-- "A call that the table below refuses, judged on the book, gets that refusal and changes nothing there."
unfoldable pub effect_of : Book → Call → Option Row → Effect
effect_of b c none = record { book = applied b c; answer = reply b c }
effect_of b c (some r) = record { book = b; answer = refusal r.number r.hour }

-- one call
unfoldable pub effect : Book → Call → Effect
effect b c = effect_of b c (first_row (rows_of b c))

-- "each call on the session the last one left": the book after a list of calls, and every answer
unfoldable pub after : Book → List Call → Book
after b [] = b
after b (c ∷ cs) = after (effect b c).book cs

unfoldable pub answers : Book → List Call → List Answer
answers b [] = []
answers b (c ∷ cs) = (effect b c).answer ∷ answers (effect b c).book cs

-- Opening

-- "Beside a refused date stands the fresh session of 2002-01-01."
unfoldable pub opened_with : Date → Option Row → Effect
opened_with d none = record { book = fresh d; answer = done }
opened_with d (some r) = record { book = fresh (record { year = 2002; month = 1; day = 1 }); answer = refusal r.number r.hour }

unfoldable pub opening : Date → Effect
opening d = opened_with d (first_row (date_row d ∷ []))

unfoldable pub unfold_day_book : Unit {0}
unfolding change_row unregistered bad_holder is_second no_french is_partner no_partner units_full full gate_row lodge_rows call_rows rows_of with_units with_capacities with_standing with_stage with_losses notify grant rights_on_side entry applied reply effect_of effect after answers opened_with opening
unfold_day_book = tt
