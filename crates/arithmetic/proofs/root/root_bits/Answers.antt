-- `arithmetic::root::root_bits` meets its contract. Assumes nothing.
use Prim.Native.Nat.{◌<◌}
use native.Mathlib.Omega.{arith}
use borrow.Author.Rules.{rules}
use Rattle.arithmetic.proofs.Patterns.{worth-under}
use Rattle.arithmetic.proofs.Rounded.{spread-range, root-digits, root-of-digits}
use Rattle.arithmetic.proofs.root.root_bits.Goals as goal

-- the root has 24 digits
digits : (c : goal.After-root_nearest-m) → c.root_nearest-m.result < 16777216
digits c = root-digits _ _ _ _ c.apart-p.ensures c.spread.ensures _ c.root_nearest-m.ensures

pub root_nearest-m-requires : goal.root_nearest-m-requires
root_nearest-m-requires c =
    let range = spread-range _ _ _ _ c.apart-p.ensures c.spread.ensures in
    (range.0, omega (arith, range.1))

pub overflow_cast-m : goal.overflow_cast-m
overflow_cast-m c = omega (arith, digits c)

pub overflow_add-result-2 : goal.overflow_add-result-2
overflow_add-result-2 c = omega (arith, digits c, c.apart-p.ensures.shift)

pub returns : goal.returns
returns c = root-of-digits _ _ _ _ c.apart-p.ensures c.spread.ensures _
    c.root_nearest-m.ensures (worth-under _ c.requires.1)
