-- The bytes of a session that gate_session_size tells are those of its type.
use mathlib.Core.Path.{◌≡◌, refl}
use prog.Memory.{size}
use Rattle.session.proofs.Session.TheLaws as T'

pub session-size : size T'.mir ≡ 59976
session-size = refl
