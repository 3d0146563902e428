-- `arithmetic::root::lifted` meets its contract. The invariant: the value stays b * 2 ^ 23, and the digits are few
-- enough. The measure is the shift. Assumes nothing.
use mathlib.Core.Path.{◌≡◌, refl}
use Prim.Native.Nat.{◌*◌, ◌^◌, ◌≤◌, ◌<◌}
use native.Mathlib.Omega.{arith}
use Rattle.arithmetic.proofs.Steps.{room, doubled}
use Rattle.arithmetic.proofs.root.lifted.Given as goal

abbrev pub invariant-loop-digits : goal.invariant-loop-digits
invariant-loop-digits l = (l.digits < 16777216) × (l.shift ≤ 23) × (l.digits * 2 ^ l.shift ≡ l.b * 2 ^ 23)

abbrev pub decreases-loop-digits : goal.decreases-loop-digits
decreases-loop-digits l = l.shift
