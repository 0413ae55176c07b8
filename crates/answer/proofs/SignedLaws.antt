-- Naturals as an i64.
use Prim.Native.Nat.{ℕ, ◌^◌, ◌<◌}
use mathlib.Core.Path.{◌≡◌}
use native.Mathlib.Omega.{arith}
use lib.IntN.{pos}
use mir.Syntax.{w64}
use mir.Val.{to_z}
use mir.ValLaws.{to_z_pos}

-- a natural below 2 ^ 33 is itself
pub as_is : (n : ℕ) → n < 2 ^ 33 → to_z w64 n ≡ pos n
as_is n h = to_z_pos w64 n (omega arith)
