use Prim.Native.Nat.{◌+◌, ◌*◌, ◌/◌, ◌≤◌, ◌<◌}
use mathlib.Core.Path.{◌≡◌, refl, sym, ap, ◌∙◌}
use native.Mathlib.Omega.{arith}
use native.Mathlib.Nat.{sub-zero}
use lib.ListN.{length}
use Rattle.std.proofs.lemmas.Result.{err_from_is_err_and}
use Rattle.lines.specs.Lines.{lines_of}
use Rattle.obstacles.specs.Vertices.{vertices_of}
use Rattle.obstacles.specs.Obstacles.{lines_up_to, edge_count, obstacle_lines}
use Rattle.obstacles.specs.Read.{blank_numbers, answer_as}
use Rattle.obstacles.proofs.EdgesInOrder.{few-counted, add_kept, add_nothing, add-refused}
use Rattle.obstacles.proofs.Filled.{filled_none, filled_next, filled-answer}
use Rattle.obstacles.proofs.AnswerLaws.{refused-answer}
use Rattle.lines.proofs.Numbers.{stored_lines}
use Rattle.lines.proofs.Stored.{stored-sets}
use Rattle.obstacles.proofs.obstacle.lines_for_edges.Goals as goal
use Rattle.obstacles.proofs.obstacle.lines_for_edges.Goals.{in-Some, in_default}

pub loop-i-init : goal.loop-i-init
unfolding lines_up_to lines_of blank_numbers
loop-i-init c =
    let few = few-counted _ _ c.edge_count-edges.ensures in
    (omega arith, omega (arith, few, c.requires), few, filled_none _ refl, refl)

pub returns-in_err-line : goal.returns-in_err-line
unfolding obstacle_lines
returns-in_err-line c =
    let a = c.args.asked in
    let l = c.loop-i in
    let n = length a.outline.vertices.now / 2 in
    let made = rw sub-zero at c.in_err-line.ensures in
    let p = err_from_is_err_and c.from_residual.result c.from_residual.ensures.1 in
    rw (p.1, p.2) (refused-answer _ (sym (add-refused a.agent a.outline.kind n (vertices_of a.outline.vertices.now) a.margin a.horizon l.i
    (edge_count a.outline.kind n) _ _ l.invariant.4 made (omega (arith, c.edge_count-edges.ensures)))))

pub loop-i-preserved : goal.loop-i-preserved
loop-i-preserved c =
    let a = c.args.asked in
    let l = c.loop-i in
    let n = length a.outline.vertices.now / 2 in
    elim c.match-branch-2.branch [
      | in-Some w ↦
          let few : l.count < 64 = omega arith in
          let room : 4 * l.count + 4 ≤ length l.lines = omega (arith, l.invariant.3.size) in
          let made = rw (w.in-Some.is, sub-zero) at c.in_ok-line.ensures in
          let stored = w.lines-is ∙ w.put_line.ensures ∙ stored-sets l.lines l.count _ room in (
            omega arith,
            l.invariant.1,
            l.invariant.2,
            rw (w.count-is, stored) (filled_next l.lines l.count _ few l.invariant.3),
            rw (w.count-is, stored, stored_lines l.lines l.count _ room)
                (add_kept a.agent a.outline.kind n (vertices_of a.outline.vertices.now) a.margin a.horizon l.i _ _ l.invariant.4 made),
          )
      | in_default w ↦
          let made = rw (w.in_default.is, sub-zero) at c.in_ok-line.ensures in (
            omega arith,
            l.invariant.1,
            l.invariant.2,
            rw (w.count-is, w.lines-is) l.invariant.3,
            rw (w.count-is, w.lines-is)
                (add_nothing a.agent a.outline.kind n (vertices_of a.outline.vertices.now) a.margin a.horizon l.i _ l.invariant.4 made),
          )
    ]

pub returns : goal.returns
unfolding obstacle_lines
returns c =
    let a = c.args.asked in
    let l = c.loop-i in
    let n = length a.outline.vertices.now / 2 in
    let ended : l.i ≡ edge_count a.outline.kind n = omega (arith, c.edge_count-edges.ensures) in
    filled-answer l.lines l.count (omega arith) l.invariant.3 ∙ sym (ap answer_as (rw ended at l.invariant.4))
