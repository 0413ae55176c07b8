-- A day book whose hour 1 is a given hour: what makes `Ready` (of crates/hour/specs/Ready.antt) exact.
use Rattle.std.specs.Prelude.{ℕ, ◌≡◌, Bool, true, false, cond, List, [], ◌∷◌, map, ltb, get_or, replicate, Option, Some, None}
use Rattle.std.proofs.Math.Option.{some, none}
use Rattle.rules.specs.Lists.{from}
use Rattle.rules.specs.Units as U
use Rattle.rules.specs.Lodging as L
use Rattle.rules.specs.Book as B
use Rattle.rules.specs.Closing as C
use Rattle.rules.specs.Match.{Holder, Offer}
use Rattle.rules.specs.Borders.{Execution, runs}
use Rattle.rules.specs.Clearing as R
use Rattle.session.specs.Image as I
use Rattle.hour.specs.declared.Hour.{Hour}
use Rattle.hour.specs.View.{hour_in}
use Rattle.hour.specs.Units.{lodgements_of, last_ones, same_unit}

-- A book that holds an hour: sound, which every book that calls leave is, and closed, and its hour 1 is cleared from what the hour has (what an
-- offer has as matched apart).
pub record Holding (b : B.Book) (h : Hour) : Type 0 where
  pub sound : I.Sound b
  pub closed : b.closed ≡ true
  pub hour : R.hour_of_day b (C.accepted_at b) 1 ≡ hour_in h

-- The book

-- each unit has an agent of its own, which has the unit's number, and the largest maximum; none has rights
abbrev pub unit_for : Holder → U.Registered
unit_for x = record {
  unit = record { number = x.unit; agent = x.unit; border = x.border; purchase = x.purchase; maximum = U.max_energy; legacy = x.legacy; rights = false };
  available = none;
  rights = none;
}

-- a normal lodgement that names hour 1 only; an execution's contract has the lodging number
abbrev pub lodgement_for : Bool → Holder → (energy price : ℕ) → L.Lodgement
lodgement_for execution x energy price = record {
  key = record { execution = execution; default = false; unit = x.unit; contract = cond execution x.number 0 };
  number = x.number;
  energies = energy ∷ replicate 24 0;
  prices = price ∷ replicate 24 0;
}

abbrev pub offer_for : Offer → L.Lodgement
offer_for o = lodgement_for false o.holder o.offered o.price

abbrev pub execution_for : Execution → L.Lodgement
execution_for x = lodgement_for true x.holder x.energy 0

-- a lodgement among others by rising number
unfoldable pub insert : L.Lodgement → List L.Lodgement → List L.Lodgement
insert l [] = l ∷ []
insert l (k ∷ ks) = cond (ltb l.number k.number) (l ∷ k ∷ ks) (k ∷ insert l ks)

unfoldable pub insert_all : List L.Lodgement → List L.Lodgement → List L.Lodgement
insert_all [] ks = ks
insert_all (l ∷ ls) ks = insert l (insert_all ls ks)

-- a direction's capacity in every hour, where it is published
unfoldable pub published_for : Option ℕ → U.Published
published_for None = none
published_for (Some energy) = some (replicate 24 energy)

-- that of the direction at an index
unfoldable pub notice_for : List (Option ℕ) → ℕ → U.Published
notice_for cs d = published_for (get_or cs d None)

-- a border's loss: that of a purchase there, and 0 where there is none
unfoldable pub loss_among : List Execution → ℕ → ℕ
loss_among [] border = 0
loss_among (x ∷ xs) border = cond (runs border true x.holder) x.holder.loss (loss_among xs border)

-- A closed book of an ordinary day. Its last number is the largest, 65,535, so that it is above every lodgement's. The book is sound; that calls
-- lead to it is not said.
unfoldable pub book_of : Hour → B.Book
book_of h = record {
  date = record { year = 2006; month = 6; day = 1 };
  units = map (λ x. unit_for x.holder) (last_ones same_unit (lodgements_of (hour_in h)));
  capacities = map (notice_for h.capacities) (from 0 8);
  standing = insert_all (map offer_for (hour_in h).offers) (map execution_for (hour_in h).executions);
  last = 65535;
  closed = true;
  cleared = false;
  losses = map (loss_among (lodgements_of (hour_in h))) (from 0 5);
}
