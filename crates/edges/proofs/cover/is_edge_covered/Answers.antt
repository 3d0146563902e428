use mathlib.Core.Path.{sym, ◌∙◌}
use native.Mathlib.Omega.{arith}
use Rattle.lines.specs.Lines.{lines_of, off_line}
use Rattle.lines.proofs.Rows.{lines_long}
use Rattle.edges.proofs.Covered.{covered-at, covered-on, covered-done}
use Rattle.edges.proofs.cover.is_edge_covered.Goals as goal

pub returns-then-is_covered_by : goal.returns-then-is_covered_by
returns-then-is_covered_by c =
    let a = c.args in
    let l = c.loop-i in
    let b = a.existing_lines.now in
    let hit = rw (c.if-is_covered_by.true, c.line_at-line.ensures) at c.is_covered_by.ensures in
    sym (l.invariant ∙ covered-at a.left_vertex a.right_vertex a.horizon a.margin (lines_of b) l.i off_line
    (omega (arith, lines_long b)) hit)

pub loop-i-preserved : goal.loop-i-preserved
loop-i-preserved c =
    let a = c.args in
    let l = c.loop-i in
    let b = a.existing_lines.now in
    let miss = rw (c.if-is_covered_by.false, c.line_at-line.ensures) at c.is_covered_by.ensures in
    l.invariant ∙ covered-on a.left_vertex a.right_vertex a.horizon a.margin (lines_of b) l.i off_line
    (omega (arith, lines_long b)) miss

pub returns : goal.returns
returns c =
    let a = c.args in
    let l = c.loop-i in
    let b = a.existing_lines.now in
    sym (l.invariant ∙ covered-done a.left_vertex a.right_vertex a.horizon a.margin (lines_of b) l.i
    (omega (arith, lines_long b)))
