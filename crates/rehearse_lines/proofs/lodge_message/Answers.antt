use Rattle.std.proofs.Common.{sym, ap}
use Rattle.std.proofs.lemmas.List.{length-take-le}
use Rattle.rules.specs.Message as M
use Rattle.message.specs.View.{fields_in}
use Rattle.message.specs.declared.Written.{Written}
use Rattle.rehearse_lines.proofs.LodgeLaws.{count-fits, lodges-refused, written-given, lodges-given}
use Rattle.rehearse_lines.proofs.lodge_message.Goals as goal

pub slice_bounds-message-end : goal.slice_bounds-message-end
slice_bounds-message-end c =
    rw (ap (λ (w : Written). w.count) c.in-Ok.ensures.outcome, c.in-Ok.ensures.buffer) (count-fits (M.write 108 (fields_in c.args.fields)) _)

pub slice_bounds-lodge-end : goal.slice_bounds-lodge-end
slice_bounds-lodge-end c =
    sym (length-take-le c.in-Ok.count c.write_fields.new.buf
    (rw (ap (λ (w : Written). w.count) c.in-Ok.ensures.outcome, c.in-Ok.ensures.buffer) (count-fits (M.write 108 (fields_in c.args.fields)) _)))

pub returns-in-Ok : goal.returns-in-Ok
returns-in-Ok c =
    let e = c.in-Ok.ensures.outcome in
    let given = written-given 108 (fields_in c.args.fields) (sym (ap (λ (w : Written). w.row) e)) in
    lodges-given (M.write 108 (fields_in c.args.fields)) _ given _ _ _ (rw (ap (λ (w : Written). w.count) e, c.in-Ok.ensures.buffer) at c.lodge-effect.ensures)

pub returns-in-Err : goal.returns-in-Err
returns-in-Err c =
    lodges-refused (M.write 108 (fields_in c.args.fields)) c.in-Err.row (ap (λ (w : Written). w.row) c.in-Err.ensures.outcome) _ _ c.from.ensures
