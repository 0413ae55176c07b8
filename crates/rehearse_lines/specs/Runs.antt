-- What a line that is run promises: the day book's answer and the session after it, or the reply to a query.
use Rattle.std.specs.Prelude.{ℕ, ◌≡◌, List, Bool, false, eqb}
use Rattle.rules.specs.Refusals.{Outcome, refused, given}
use Rattle.rules.specs.Message as M
use Rattle.rules.specs.DayBook as D
use Rattle.answer.specs.Told as T
use Rattle.answer.specs.declared.Response.{Response}
use Rattle.calendar.specs.View.{date_in}
use Rattle.message.specs.View.{fields_in}
use Rattle.session.specs.Image.{unit_in, key_in}
use Rattle.session.specs.Steps.{Met, Opens}
use Rattle.session.specs.declared.Session.{Session}
use Rattle.notify_capacity.specs.Capacities.{capacity_in}
use Rattle.notify_unavailability.specs.Notices.{available_in}
use Rattle.notify_rights.specs.Rights.{rights_in}
use Rattle.set_loss.specs.Losses.{loss_in}
use Rattle.query.specs.Replies.{Answered}
use Rattle.query_any.specs.Asked.{query_in}
use Rattle.rehearse_words.specs.declared.calls.Call.{Call}
use Rattle.rehearse_words.specs.declared.calls.Call.TheVariants.{Register, Capacity, Available, Rights, Loss, Lodge, Annul, Close, Clear}
use Rattle.rehearse_words.specs.declared.lines.Line.{Line}
use Rattle.rehearse_words.specs.declared.lines.Line.TheVariants as L
use Rattle.rehearse_lines.specs.declared.telling.Said.{Said}
use Rattle.rehearse_lines.specs.declared.telling.Said.TheVariants.{NotUnderstood, Answer, Report}

-- the rules' call
abbrev pub call_in : Call → D.Call
call_in = elim [
  | Register unit ↦ D.register (unit_in unit)
  | Capacity notice ↦ capacity_in notice
  | Available notice ↦ available_in notice
  | Rights notice ↦ rights_in notice
  | Loss loss ↦ loss_in loss
  | Lodge message ↦ D.lodge message.items
  | Annul key ↦ D.annul (key_in key)
  | Close ↦ D.close
  | Clear ↦ D.clear
]

-- a message of some fields is lodged, or refused as it is written
abbrev pub Lodges : Session → Outcome (List ℕ) → Session → Response → Type 0
Lodges s (given bytes) t a = Met s (D.lodge bytes) (record { session = t; answer = a })
Lodges s (refused row hour) t a = (a ≡ T.refused row 0) × (t ≡ s)

-- the session before a line and after it, and its answer; a report has none
abbrev pub Ran : Session → Line → Session → Response → Type 0
Ran s (L.Open date) t a = Opens (date_in date) (record { answer = a; session = t })
Ran s (L.Call call) t a = Met s (call_in call) (record { session = t; answer = a })
Ran s (L.Message fields) t a = Lodges s (M.write 108 (fields_in fields)) t a
Ran s (L.Query query) t a = Answered s (query_in query) a × (t ≡ s)
Ran s L.Report t a = Unit {0}

abbrev pub IfAnswer : Said → (Response → Type 0) → Type 0
IfAnswer NotUnderstood P = Unit {0}
IfAnswer (Answer a) P = P a
IfAnswer Report P = Unit {0}

-- kind 1 is that of a refusal
abbrev pub is_refused : Said → Bool
is_refused NotUnderstood = false
is_refused (Answer a) = eqb a.kind 1
is_refused Report = false
