-- `words::byte_at` meets its contract. Assumes nothing.
use borrow.Author.Rules.{rules}
use Prim.Native.Nat.{◌+◌}
use native.Mathlib.Omega.{arith}
use Rattle.words.proofs.Laws.{none-there}
use Rattle.words.proofs.byte_at.Goals as goal

pub returns-else-k-s : goal.returns-else-k-s
returns-else-k-s c =
    let a = c.args in
    none-there a.s.now (a.at + a.k) (omega arith)

pub returns-else-at-s : goal.returns-else-at-s
returns-else-at-s c =
    let a = c.args in
    none-there a.s.now (a.at + a.k) (omega arith)
