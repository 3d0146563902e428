-- `linear_programming::solve_list::lay` meets its contract. Assumes nothing.
use mathlib.Core.Path.{◌∙◌}
use native.Mathlib.Omega.{arith}
use Rattle.lines.specs.Lines.{off_line}
use Rattle.lines.proofs.Fold.{take_next}
use Rattle.lines.proofs.Stored.{stored_next}
use Rattle.linear_programming.proofs.solve_list.lay.Goals as goal

pub loop-n-preserved : goal.loop-n-preserved
loop-n-preserved c =
    let l = c.loop-n in (
      c.put_line.auto.numbers ∙ l.invariant.0,
      rw (
        c.put_line.ensures,
        stored_next l.numbers l.n _ (omega arith),
        take_next c.args.lines.now l.n (omega arith) off_line,
        l.invariant.1,
      ),
    )
