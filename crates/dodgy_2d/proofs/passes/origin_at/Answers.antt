-- `dodgy_2d::passes::origin_at` meets its contract. Assumes nothing.
use Prim.Native.Nat.{◌-◌, ◌≤◌}
use mathlib.Core.Path.{sym}
use native.Mathlib.Omega.{arith}
use lib.ListN.{length}
use borrow.Author.Tests.{ltb-false}
use Rattle.dodgy_2d.proofs.OriginsNoted.{neighbour-of, none_of}
use Rattle.dodgy_2d.proofs.passes.origin_at.Goals as goal

pub returns-then-place-neighbours : goal.returns-then-place-neighbours
returns-then-place-neighbours c =
    let a = c.args in
    let w = a.walls.now in
    let far : length w ≤ a.index = ltb-false a.index (length w) (sym c.in_default.ensures.lookup.0) in
    sym (neighbour-of w (length w) a.neighbours (omega arith) a.index (a.index - length w) (omega arith) c.if-place-neighbours.true)

pub returns : goal.returns
returns c =
    let a = c.args in
    let w = a.walls.now in
    let far : length w ≤ a.index = ltb-false a.index (length w) (sym c.in_default.ensures.lookup.0) in
    sym (none_of w (length w) a.neighbours (omega arith) a.index (omega (arith, c.if-place-neighbours.false)))
