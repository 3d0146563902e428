-- `arithmetic::root::nearer` meets its contract. Assumes nothing.
use Prim.Native.Nat.{◌+◌, ◌/◌, ◌<◌}
use native.Mathlib.Omega.{arith}
use Rattle.arithmetic.proofs.Steps.{guess-pos, sum-most, nearest-or-next}
use Rattle.arithmetic.proofs.root.nearer.Goals as goal

small : (c : goal.Start) → c.args.g + c.args.w / c.args.g + 1 < 67108864
small c = sum-most c.args.w c.args.g c.requires.0 c.requires.1 c.requires.2

pub nonzero_div-result : goal.nonzero_div-result
nonzero_div-result c = guess-pos c.args.w c.args.g c.requires.0 c.requires.1 c.requires.2

pub overflow_add-result : goal.overflow_add-result
overflow_add-result c = omega (arith, small c)

pub overflow_add-result-2 : goal.overflow_add-result-2
overflow_add-result-2 c = omega (arith, small c)

pub returns : goal.returns
returns c = (nearest-or-next c.args.w c.args.g c.requires.0 c.requires.1 c.requires.2, omega (arith, small c))
