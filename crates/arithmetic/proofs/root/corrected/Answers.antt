-- `arithmetic::root::corrected` meets its contract. Assumes nothing.
use Prim.Native.Nat.{◌≤◌}
use native.Mathlib.Nat.{mul-le-mul}
use native.Mathlib.Omega.{arith}
use borrow.Author.Rules.{rules}
use Rattle.arithmetic.proofs.Steps.{nearest-before, nearest-here, some-root}
use Rattle.arithmetic.proofs.root.corrected.Goals as goal

pub overflow_mul-m : goal.overflow_mul-m
overflow_mul-m c =
    let s : c.args.m ≤ 67108864 = omega arith in
    omega (arith, mul-le-mul s s)

pub overflow_sub-result : goal.overflow_sub-result
overflow_sub-result c = omega (arith, some-root c.args.w c.args.m c.requires.2 c.requires.0)

pub returns-then-w-m : goal.returns-then-w-m
returns-then-w-m c = nearest-before _ _ c.requires.2 c.requires.0 c.if-w-m.true

pub returns : goal.returns
returns c = nearest-here _ _ c.requires.2 c.if-w-m.false
