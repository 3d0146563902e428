-- `lines::put_origin` meets its contract. Assumes nothing.
use mathlib.Core.Path.{refl, sym}
use native.Mathlib.Omega.{arith}
use native.Mathlib.Numerals.{add-one, add-two}
use lib.ListN.{length-set}
use Rattle.lines.proofs.OriginRows.{origin-sets, origin-not}
use Rattle.lines.proofs.put_origin.Goals as goal

pub returns-then-i-numbers : goal.returns-then-i-numbers
returns-then-i-numbers c = let a = c.args in sym (origin-not a.numbers.now a.i a.origin (omega arith))

pub bounds-numbers-k-2 : goal.bounds-numbers-k-2
bounds-numbers-k-2 c = simp length-set (omega arith)

pub bounds-numbers-k-3 : goal.bounds-numbers-k-3
bounds-numbers-k-3 c = simp length-set (omega arith)

pub returns : goal.returns
returns c =
    let a = c.args in
    rw (origin-sets a.numbers.now a.i a.origin (omega arith), add-one, add-two) refl
