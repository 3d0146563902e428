-- `lines::line_at` meets its contract. Assumes nothing.
use mathlib.Core.Path.{refl, sym}
use native.Mathlib.Omega.{arith}
use lib.ListN.{get_or-eq_default}
use lib.Ieee.{div, of_bits}
use Rattle.lines.specs.Lines.{lines_of, off_line}
use Rattle.lines.proofs.Rows.{lines_long, four-get}
use Rattle.lines.proofs.line_at.Goals as goal

pub returns-then-i-numbers : goal.returns-then-i-numbers
returns-then-i-numbers c =
    let a = c.args in
    sym (four-get a.numbers.now a.i _ refl (omega arith))

pub returns : goal.returns
unfolding div of_bits
returns c =
    let a = c.args in
    sym (get_or-eq_default (lines_of a.numbers.now) off_line (rw (lines_long a.numbers.now) c.if-i-numbers.false))
