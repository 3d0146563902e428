-- `obstacles::get_lines_for_agent_to_obstacle` meets its contract. Assumes nothing.
use Prim.Native.Nat.{◌/◌}
use mathlib.Core.Path.{◌≡◌, sym, ap, ◌∙◌}
use native.Mathlib.Omega.{arith}
use lib.ListN.{length}
use Rattle.admission.specs.Heads.{head_of}
use Rattle.obstacles.specs.Vertices.{vertices_of}
use Rattle.obstacles.specs.Obstacles.{obstacle_lines, obstacle_call}
use Rattle.obstacles.specs.Read.{answer_as, told_of, fault_in}
use Rattle.obstacles.proofs.ObstacleFaults.{just-lent}
use Rattle.obstacles.proofs.EdgesInOrder.{lines-few-admitted}
use Rattle.obstacles.proofs.AnswerLaws.{told-answer}
use Rattle.obstacles.proofs.get_lines_for_agent_to_obstacle.Goals as goal

pub lines_for_edges-requires : goal.lines_for_edges-requires
lines_for_edges-requires c =
    let a = c.args in
    omega (arith, just-lent (head_of a.kind a.count) a.vertices.now (sym c.in_ok-judge_obstacle.ensures))

pub returns : goal.returns
unfolding obstacle_call
returns c =
    let a = c.args in
    let n = length a.vertices.now / 2 in
    let vs = vertices_of a.vertices.now in
    let all : n ≡ a.count = omega
    (arith, just-lent (head_of a.kind a.count) a.vertices.now (sym c.in_ok-judge_obstacle.ensures)) in
    let whole : obstacle_lines a.agent a.kind n vs a.margin a.horizon
    ≡ obstacle_call a.agent a.kind a.vertices.now a.count a.margin a.horizon
    = simp (all, ← c.in_ok-judge_obstacle.ensures, ← c.in_ok-judge_agent.ensures) in
    record {
      answer = c.lines_for_edges.ensures ∙ ap answer_as whole;
      told = ap told_of c.lines_for_edges.ensures
          ∙ told-answer _ (lines-few-admitted a.agent a.kind n vs a.margin a.horizon) ∙ ap fault_in whole;
    }
