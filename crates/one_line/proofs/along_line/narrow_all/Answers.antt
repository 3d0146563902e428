-- `one_line::along_line::narrow_all` meets its contract. Assumes nothing.
use Prim.Native.Nat.{◌/◌}
use mathlib.Core.Path.{◌≡◌, sym, ap, ◌∙◌}
use native.Mathlib.Omega.{arith}
use lib.ListN.{length}
use Rattle.one_line.specs.OneLine.{between, narrow}
use Rattle.one_line.proofs.LineFolds.{lines-on, lines-stop, lines-done}
use Rattle.one_line.proofs.OneLineLaws.{empty-stays}
use Rattle.one_line.proofs.along_line.narrow_all.Goals as goal

pub returns-in-Err : goal.returns-in-Err
returns-in-Err c =
    let a = c.args in
    let l = c.loop-i in
    let step = rw c.line_at.ensures at c.in-Err.ensures in
    sym (l.invariant ∙ lines-stop (narrow a.line) a.lines.now l.i (omega arith) (sym step) (empty-stays a.line _ _))

pub loop-i-preserved : goal.loop-i-preserved
loop-i-preserved c =
    let a = c.args in
    let l = c.loop-i in
    let step = rw c.line_at.ensures at c.in-Ok.ensures in
    l.invariant ∙ lines-on (narrow a.line) a.lines.now l.i (omega arith) (sym step)

pub returns : goal.returns
returns c =
    let a = c.args in
    let l = c.loop-i in
    let done : length a.lines.now / 4 ≡ l.i = omega arith in
    ap (λ n. between l.ends.left l.ends.right n) done
    ∙ sym (l.invariant ∙ lines-done (narrow a.line) a.lines.now l.i (omega arith))
