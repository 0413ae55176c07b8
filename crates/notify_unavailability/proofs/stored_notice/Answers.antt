use mathlib.Core.Path.{ap}
use Prim.Native.Nat.{ℕ}
use mathlib.Core.List.{List}
use mathlib.Core.Bool.{true}
use Rattle.session.specs.declared.Notice.{Notice}
use Rattle.notify_unavailability.proofs.NoticeLaws.{stored-pad}
use Rattle.notify_unavailability.proofs.stored_notice.Goals as goal

pub returns : goal.returns
returns c =
    ap {B = Notice} (λ (es : List ℕ). record { given = true; reserved = 0; reserved2 = 0; energies = es })
    (rw c.copy_from_slice.ensures.after (stored-pad c.min-count.result c.args.energies.now c.min-count.ensures))
