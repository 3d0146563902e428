-- `lines::origin_at` meets its contract. Assumes nothing.
use mathlib.Core.Path.{refl, sym}
use native.Mathlib.Omega.{arith}
use lib.ListN.{get_or-eq_default}
use Rattle.lines.specs.Origins.{unknown, origins_of}
use Rattle.lines.proofs.OriginRows.{origins-long, three-get}
use Rattle.lines.proofs.origin_at.Goals as goal

pub returns-then-i-numbers : goal.returns-then-i-numbers
returns-then-i-numbers c = let a = c.args in sym (three-get a.numbers.now a.i _ refl (omega arith))

pub returns : goal.returns
returns c =
    let a = c.args in
    sym (get_or-eq_default (origins_of a.numbers.now) unknown (rw (origins-long a.numbers.now) c.if-i-numbers.false))
