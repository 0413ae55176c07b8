use Rattle.std.proofs.Common.{rules, arith, ap, sym, ◌+◌, ◌∙◌, [], ◌∷◌, length, drop, set, get_or}
use lib.ListN.{length-append}
use Rattle.std.proofs.lemmas.Slice.Zip.{zip_turn, zip_end}
use Rattle.rules.proofs.ListLaws.{all-at}
use Rattle.withdraw_keep.specs.Abroad.{put_at}
use Rattle.hour_match.proofs.ViewLaws.{blank}
use Rattle.withdraw.proofs.PlaceLaws.{put-more, put-end}
use Rattle.withdraw.proofs.abroad.put.Goals as goal

pub bounds-offers-i : goal.bounds-offers-i
bounds-offers-i c =
    let l = c.loop-i in
    let z = zip_turn c.args.places.now c.args.abroad.now l.yielded c.into_iter-i-iterator.result l.i-iterator c.next.new.self c.next.result (search rules) (search rules) l.yielded_by (c.in-Some.i, c.in-Some.offer) c.in-Some.is c.next.ensures.steps in
    let i = all-at (length l.yielded) 0 c.requires.names.inside z.0 in
    let n = l.auto.offers in
    rw (z.2 0) (omega arith)

pub offset_bounds-offers-i : goal.offset_bounds-offers-i
offset_bounds-offers-i c = let g = c.well_formed in let i = bounds-offers-i c in record { fits = omega arith }

pub loop-i-preserved : goal.loop-i-preserved
loop-i-preserved c =
    let l = c.loop-i in
    let a = c.args in
    let z = zip_turn a.places.now a.abroad.now l.yielded c.into_iter-i-iterator.result l.i-iterator c.next.new.self c.next.result (search rules) (search rules) l.yielded_by (c.in-Some.i, c.in-Some.offer) c.in-Some.is c.next.ensures.steps in
    let k = length l.yielded in
    rw (length-append l.yielded ((c.in-Some.i, c.in-Some.offer) ∷ []), z.2 0)
    (ap (λ o. put_at (drop (k + 1) a.places.now) (drop (k + 1) a.abroad.now) (set l.offers (get_or a.places.now k 0) o)) (z.3 blank)
    ∙ put-more a.places.now a.abroad.now l.offers k z.0 c.requires.same_length ∙ l.invariant)

pub returns : goal.returns
returns c =
    let l = c.loop-i in
    let a = c.args in
    let e = zip_end a.places.now a.abroad.now l.yielded c.into_iter-i-iterator.result l.i-iterator c.next.new.self c.next.result (search rules) (search rules) l.yielded_by c.in-None.is c.next.ensures.steps in
    sym (put-end a.places.now a.abroad.now l.offers (length l.yielded) (omega (arith, e, c.requires.same_length))) ∙ l.invariant
