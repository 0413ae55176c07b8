use Rattle.std.proofs.Common.{rules, ◌≡◌, sym, ◌∙◌, map, get_or, unwrap_or, None, arith}
use Rattle.std.proofs.lemmas.List.{length-map, ext_get_or}
use Rattle.std.proofs.Math.ListN.{get_or-map}
use Rattle.clear_store.proofs.plain.Goals as goal

pub returns : goal.returns
returns c =
    let m = c.map.ensures.items in
    let ms = c.args.maxima.now in
    ext_get_or 0 c.map.result (map (λ o. unwrap_or o 0) ms) (omega (arith, m.long, length-map ms (λ o. unwrap_or o 0)))
    (λ i h.
    let r = m.at i None 0 (omega (arith, m.long)) in
    let e : get_or c.map.result i 0 ≡ unwrap_or (get_or ms i None) 0 = search rules in
    e ∙ sym (get_or-map (λ o. unwrap_or o 0) ms i None))
