-- Each way out is an outcome of the table, in its order.
use Rattle.std.proofs.Common.{sym, ◌∙◌}
use Rattle.message_cursor.proofs.ReadLaws.{read-3, read-4, read-5, read-given}
use Rattle.message_cursor.proofs.fieldwise.read_fields.Goals as goal

pub returns-then-bad_form : goal.returns-then-bad_form
returns-then-bad_form c = read-3 _ (sym c.if-bad_form.ensures)

pub returns-then-bad_map : goal.returns-then-bad_map
returns-then-bad_map c = read-4 _ c.fields_of-m.ensures (sym c.if-bad_form.ensures) (sym c.if-bad_map.ensures)

pub returns-then-bad_fields : goal.returns-then-bad_fields
returns-then-bad_fields c =
    read-5 _ c.fields_of-m.ensures (sym c.if-bad_form.ensures) (sym c.if-bad_map.ensures) (rw c.top_of.ensures at (sym c.bad_fields.ensures ∙ c.if-bad_fields.true))

pub returns : goal.returns
returns c = read-given _ c.fields_of-m.ensures (sym c.if-bad_form.ensures) (sym c.if-bad_map.ensures) (rw c.top_of.ensures at (sym c.bad_fields.ensures ∙ c.if-bad_fields.false))
