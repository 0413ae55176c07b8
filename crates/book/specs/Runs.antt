-- Lists of calls on a session, each on the session that the last one left.
use Rattle.std.specs.Prelude.{◌≡◌, List, [], ◌∷◌, map, ℕ, length}
use Rattle.rules.specs.Hours.{Date}
use Rattle.rules.specs.Book as B
use Rattle.rules.specs.DayBook as D
use Rattle.answer.specs.Told.{told}
use Rattle.answer.specs.declared.Response.{Response}
use Rattle.session.specs.Image.{image, Sound, unit_in, key_in}
use Rattle.session.specs.Steps.{Met, Opens}
use Rattle.session.specs.declared.Session.{Session}
use Rattle.session.specs.declared.Opened.{Opened}
use Rattle.session.specs.declared.Effect.{Effect}
use Rattle.session.specs.declared.Unit.{Unit}
use Rattle.session.specs.declared.Key.{Key}
use Rattle.notify_unavailability.specs.Notices.{available_in}
use Rattle.notify_unavailability.specs.declared.Availability.{Availability}
use Rattle.notify_rights.specs.Rights.{rights_in}
use Rattle.notify_rights.specs.declared.Rights.{Rights}
use Rattle.notify_capacity.specs.Capacities.{capacity_in}
use Rattle.notify_capacity.specs.declared.Capacities.{Capacities}
use Rattle.set_loss.specs.Losses.{loss_in}
use Rattle.set_loss.specs.declared.Loss.{Loss}

-- A call was made, with its arguments and what it gave, by value or on a lent session: each premise is the function's own contract (a
-- capacity notice comes in an array of eight), and the call is what the book is fed.
pub data Called (s : Session) : D.Call → Effect → Type 0 where
  registers : (u : Unit) {r : Effect} → Met s (D.register (unit_in u)) r → Called s (D.register (unit_in u)) r
  notifies : (n : Capacities) {r : Effect} → length n.directions ≡ 8 → Met s (capacity_in n) r → Called s (capacity_in n) r
  avails : (n : Availability) {r : Effect} → Met s (available_in n) r → Called s (available_in n) r
  grants : (n : Rights) {r : Effect} → Met s (rights_in n) r → Called s (rights_in n) r
  sets : (l : Loss) {r : Effect} → Met s (loss_in l) r → Called s (loss_in l) r
  lodges : (message : List ℕ) {r : Effect} → Met s (D.lodge message) r → Called s (D.lodge message) r
  annuls : (key : Key) {r : Effect} → Met s (D.annul (key_in key)) r → Called s (D.annul (key_in key)) r
  closes : {r : Effect} → Met s D.close r → Called s D.close r
  clears : {r : Effect} → Met s D.clear r → Called s D.clear r

-- "each call on the session the last one left": the calls, the session at the list's end, and every answer
pub data Ran : Session → List D.Call → Session → List Response → Type 0 where
  ended : {s : Session} → Ran s [] s []
  then : {s t : Session} {c : D.Call} {r : Effect} {cs : List D.Call} {rs : List Response}
      → Called s c r → Ran r.session cs t rs → Ran s (c ∷ cs) t (r.answer ∷ rs)

-- a session that lists of calls start from, "a fresh session", and the book that it stands for
pub data Started : Session → B.Book → Type 0 where
  opened : (d : Date) (o : Opened) → Opens d o → Started o.session (D.opening d).book

-- "every answer [..] is that of document 01's day book", and the session at the list's end stands for the book
pub record Agrees (b : B.Book) (cs : List D.Call) (t : Session) (rs : List Response) : Type 0 where
  pub sound : Sound (D.after b cs)
  pub session : t ≡ image (D.after b cs)
  pub answers : rs ≡ map told (D.answers b cs)
