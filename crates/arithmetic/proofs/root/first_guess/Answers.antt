-- `arithmetic::root::first_guess` meets its contract. Assumes nothing.
use mathlib.Core.Path.{◌≡◌}
use Prim.Native.Nat.{◌+◌, ◌*◌, ◌/◌, ◌%◌, ◌≤◌}
use native.Mathlib.Nat.{mul-le-mul}
use native.Mathlib.Omega.{arith}
use borrow.Author.Rules.{rules}
use Rattle.arithmetic.proofs.Rows.{row_near}
use Rattle.arithmetic.proofs.root.first_guess.Goals as goal

small : (c : goal.After-row-entry) → c.row-entry.result / 16777216 * (c.args.w % 8796093022208) ≤ 1048576 * 8796093022208
small c =
    let s : c.row-entry.result / 16777216 ≤ 1048576 = omega (arith, c.row-entry.ensures.gentle) in
    let t : c.args.w % 8796093022208 ≤ 8796093022208 = omega arith in
    mul-le-mul s t

pub overflow_mul-rise : goal.overflow_mul-rise
overflow_mul-rise c = omega (arith, small c)

pub overflow_add-result : goal.overflow_add-result
overflow_add-result c = omega (arith, small c)

pub returns : goal.returns
returns c =
    let w = c.args.w in
    let e : w / 8796093022208 * 8796093022208 + w % 8796093022208 ≡ w = omega arith in
    rw e at (row_near _ _ _ (w % 8796093022208) c.row-entry.ensures (omega arith))

pub row-entry-requires : goal.row-entry-requires
row-entry-requires c = omega arith
