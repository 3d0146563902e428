use mathlib.Core.Path.{sym, ◌∙◌}
use native.Mathlib.Omega.{arith}
use Rattle.lines.proofs.Stored.{stored-sets}
use Rattle.scene_records.proofs.Chains.{told_exit}
use Rattle.scene_records.proofs.RowLaws.{rows-done, number-refused, row-refused, rows_next}
use Rattle.scene_records.proofs.neighbours.store_lines.Goals as goal

pub returns-in_err-number : goal.returns-in_err-number
returns-in_err-number c =
    told_exit _ _ _ c.from_residual.ensures.1
    ∙ sym (c.loop-i.invariant ∙ number-refused _ _ _ _ _ _ c.loop-i-test.true _ c.in_err-number.ensures)

pub returns-in_err-line : goal.returns-in_err-line
returns-in_err-line c =
    told_exit _ _ _ c.from_residual-in_err-line.ensures.1
    ∙ sym (c.loop-i.invariant ∙ row-refused _ _ _ _ _ _ c.loop-i-test.true _ _ c.in_ok-number.ensures _ c.in_err-line.ensures)

pub loop-i-preserved : goal.loop-i-preserved
loop-i-preserved c =
    let l = c.loop-i in
    l.invariant ∙ rows_next _ _ _ _ _ _ c.loop-i-test.true _ _ c.in_ok-number.ensures _ _ _ c.in_ok-line.ensures
    (c.put_line.ensures ∙ stored-sets l.lines l.i _ (omega (arith, c.requires.0)))

pub returns : goal.returns
returns c = rows-done _ _ _ _ _ _ c.loop-i-test.false ∙ sym c.loop-i.invariant
