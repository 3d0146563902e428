-- `obstacles::judge::judge_vertices` meets its contract. The invariant: the vertices before i pass, and so are there.
-- Assumes nothing.
use Prim.Native.Nat.{◌-◌, ◌*◌, ◌≤◌}
use mathlib.Core.Path.{◌≡◌}
use lib.ListN.{length, drop}
use Rattle.edges.specs.Read.{outer_of}
use Rattle.obstacles.specs.Doubled.{none_before}
use Rattle.obstacles.specs.ObstacleFaults.{vertices_fault}
use Rattle.obstacles.proofs.judge.judge_vertices.Given as goal

abbrev pub invariant-loop-i : goal.invariant-loop-i
invariant-loop-i l = (2 * l.i ≤ length l.vertices) × (vertices_fault none_before l.count l.vertices
    ≡ vertices_fault (outer_of l.previous) (l.count - l.i) (drop (2 * l.i) l.vertices))
