-- Each way out is an outcome of the table, in its order.
use Rattle.std.proofs.Common.{◌≡◌, None, ap, sym, ◌∙◌, refl}
use Rattle.std.proofs.lemmas.Result.{err_from_is_err_and}
use Rattle.rules.specs.Message.{form1, bits_of, form_of}
use Rattle.rules.specs.declared.row.Row.TheVariants.{Form}
use Rattle.message_reader.specs.Slots.{blank}
use Rattle.message_reader.proofs.ReadLaws.{to_fill, read-3, read-4, read-5, read-given}
use Rattle.message_reader.proofs.SlotLaws.{fields_told}
use Rattle.message_reader.proofs.read_into.Goals.{then-bad_key-via-then-bad_key, then-bad_key-via-else-bad_key+then-fill_by_kind}
use Rattle.message_reader.proofs.read_into.Goals as goal

pub returns-in_err-head-clause-outcome : goal.returns-in_err-head-clause-outcome
returns-in_err-head-clause-outcome c =
    let p = err_from_is_err_and c.from_residual.result c.from_residual.ensures.1 in
    let n : c.right_head.result ≡ None = c.in_err-head.ensures.ok_part in
    let v = rw n at c.in_err-head.ensures.value in
    let e : c.in_err-head.field-0.0 ≡ Form = cc v in
    rw (p.1, p.2, e) (read-3 _ (rw n at c.right_head.ensures))

pub returns-then-bad_map-clause-outcome : goal.returns-then-bad_map-clause-outcome
unfolding form_of
returns-then-bad_map-clause-outcome c =
    let f = rw c.in_ok-head.ensures.ok_part at c.right_head.ensures in
    let e : c.put.new.m ≡ blank (bits_of c.args.s.now) = c.put.ensures ∙ ap (λ b. blank (bits_of b.now)) f.1 in
    read-4 _ form1 refl _ e f.0 (sym c.if-bad_map.ensures)

pub fill_by_kind-requires : goal.fill_by_kind-requires
unfolding form_of
fill_by_kind-requires c =
    let f = rw c.in_ok-head.ensures.ok_part at c.right_head.ensures in
    to_fill _ form1 refl _ (c.put.ensures ∙ ap (λ b. blank (bits_of b.now)) f.1) f.0

pub returns-then-bad_key-clause-outcome : goal.returns-then-bad_key-clause-outcome
unfolding form_of
returns-then-bad_key-clause-outcome c =
    let f = rw c.in_ok-head.ensures.ok_part at c.right_head.ensures in
    let e : c.put.new.m ≡ blank (bits_of c.args.s.now) = c.put.ensures ∙ ap (λ b. blank (bits_of b.now)) f.1 in
    read-5 _ form1 refl _ e f.0 (sym c.if-bad_map.ensures) (elim c.then-bad_key.branch [
      | then-bad_key-via-then-bad_key w ↦ rw w.if-bad_key.true at (fields_told form1 _ refl _ e _ _ c.bad_key.ensures refl)
      | then-bad_key-via-else-bad_key+then-fill_by_kind w ↦ rw (w.if-bad_key.false, w.if-fill_by_kind.true) at (fields_told form1 _ refl _ e _ _ c.bad_key.ensures w.fill_by_kind.ensures.judged)
    ])

pub returns-clause-outcome : goal.returns-clause-outcome
unfolding form_of
returns-clause-outcome c =
    let f = rw c.in_ok-head.ensures.ok_part at c.right_head.ensures in
    let e : c.put.new.m ≡ blank (bits_of c.args.s.now) = c.put.ensures ∙ ap (λ b. blank (bits_of b.now)) f.1 in
    let told = fields_told form1 _ refl _ e _ _ c.bad_key.ensures c.fill_by_kind.ensures.judged in
    rw c.fill_by_kind.ensures.filled (read-given _ form1 refl _ e f.0 (sym c.if-bad_map.ensures) (rw (c.if-bad_key.false, c.if-fill_by_kind.false) at told))
