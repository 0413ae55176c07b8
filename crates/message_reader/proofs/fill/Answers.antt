-- The invariant: filling the hours that are left of the map, from the bits that are left, gives the slots of the whole.
use Rattle.std.proofs.Common.{◌≡◌, ◌+◌, ◌*◌, ◌-◌, ◌/◌, ◌%◌, ◌^◌, ◌≤◌, ◌∙◌, ap, arith, bit_and, length, refl, sym}
use lib.Bits.{and_mask}
use Rattle.rules.specs.Units.{max_energy}
use Rattle.rules.specs.Message.{bits_of, field, slot_width}
use Rattle.message_bits.proofs.WordLaws.{shifted_one}
use Rattle.message_reader.proofs.FillLaws.{filling-start, filling-next, filling-end, slot_there, slot-energy, slot-price}
use Rattle.message_reader.proofs.fill.Goals as goal

pub loop-h-init : goal.loop-h-init
loop-h-init g c =
    rw (c.into_iter-h-iterator.ensures.into_iter_gives, c.of-hours.ensures, c.requires.to_fill.energies, c.requires.to_fill.prices) (filling-start 64 17 max_energy _ _ _ c.requires.to_fill.map c.requires.to_fill.there)

pub slot_at-slot-requires-clause-in_four : goal.slot_at-slot-requires-clause-in_four
slot_at-slot-requires-clause-in_four g c = (slot_there _ _ _ c.loop-h.invariant c.in-Some.ensures.steps (c.slot_width-width.ensures.value ∙ ap (slot_width 17) c.requires.kind)).3

pub slot_at-slot-requires-clause-there : goal.slot_at-slot-requires-clause-there
slot_at-slot-requires-clause-there g c =
    let t = slot_there _ _ _ c.loop-h.invariant c.in-Some.ensures.steps (c.slot_width-width.ensures.value ∙ ap (slot_width 17) c.requires.kind) in
    omega (arith, t.0)

pub loop-h-preserved : goal.loop-h-preserved
unfolding slot_width
loop-h-preserved g c =
    let price = c.price_width-price.result in
    let wide : c.slot_width-width.result ≡ 17 + price = c.slot_width-width.ensures.value ∙ ap (λ n. 17 + n) (sym c.price_width-price.ensures.value) in
    let t = rw wide at (slot_there _ _ _ c.loop-h.invariant c.in-Some.ensures.steps (c.slot_width-width.ensures.value ∙ ap (slot_width 17) c.requires.kind)) in
    let value = rw wide at c.slot_at-slot.ensures.value in
    let there : c.loop-h.at + 17 + price ≤ 8 * length c.args.s.now = omega (arith, t.0) in
    let e : c.slot_at-slot.result / 2 ^ price ≡ field c.loop-h.at 17 (bits_of c.args.s.now) =
    ap (λ x. x / 2 ^ price) value ∙ slot-energy 17 c.loop-h.at price c.args.s.now there in
    let p : bit_and c.slot_at-slot.result (1 * 2 ^ price % 2 ^ 32 - 1) ≡ field (c.loop-h.at + 17) price (bits_of c.args.s.now) =
    ap (λ x. bit_and c.slot_at-slot.result (x - 1)) (shifted_one 32 price (omega (arith, c.price_width-price.ensures.most)))
    ∙ and_mask c.slot_at-slot.result price
    ∙ ap (λ x. x % 2 ^ price) value
    ∙ slot-price 17 c.loop-h.at price c.args.s.now there in
    let q : c.loop-h.at + c.slot_width-width.result ≡ c.loop-h.at + 17 + price = omega (arith, wide) in
    rw (c.bad_slot-bad.ensures, e, p, q, c.price_width-price.ensures.value, c.requires.kind) (filling-next 64 17 max_energy _ _ _ c.loop-h.invariant _ _ c.in-Some.ensures.steps)

pub returns-clause-judged : goal.returns-clause-judged
returns-clause-judged g c = (filling-end 64 17 max_energy _ _ _ c.loop-h.invariant c.in-None.ensures.steps.0).0

pub returns-clause-filled : goal.returns-clause-filled
returns-clause-filled g c =
    let e = filling-end 64 17 max_energy _ _ _ c.loop-h.invariant c.in-None.ensures.steps.0 in
    rw (e.1, e.2) refl
