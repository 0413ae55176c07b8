use Rattle.std.proofs.Common.{◌≡◌, ◌∙◌, refl, sym}
use denote.Enum.Bare.{same_true, same_false}
use Rattle.close_order.specs.contracts.Class.{the_type}
use Rattle.close_order.proofs.TakeLaws.{takes-other, takes-normal, takes-shown}
use Rattle.close_order.proofs.Closing.takes.Goals as goal
use Rattle.close_order.proofs.Closing.takes.Goals.{then-key, else-key}

pub returns-after-key : goal.returns-after-key
returns-after-key c = λ b e.
    let s = c.args.self.now.standing.session.now in
    let t : c.from.result ≡ c.args.class = same_true the_type tt _ _ (sym c.eq.ensures ∙ c.if-eq.true) in
    elim c.if-key.branch [
      | then-key w ↦ rw w.result-is (takes-shown s c.args.class _ c.args.at c.requires refl c.from.ensures t w.is_hidden.ensures b e)
      | else-key w ↦ rw (w.result-is, w.if-key.false) (takes-normal s c.args.class _ c.args.at c.requires refl c.from.ensures t w.if-key.false b e)
    ]

pub returns-else-eq : goal.returns-else-eq
returns-else-eq c = λ b e.
    let n : c.from.result ≡ c.args.class → ⊥ = same_false the_type _ _ (sym c.eq.ensures ∙ c.if-eq.false) in
    c.if-eq.false ∙ takes-other c.args.self.now.standing.session.now c.args.class _ c.args.at c.requires refl c.from.ensures n b e
