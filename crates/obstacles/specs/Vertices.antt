-- An obstacle's vertices, which of them are convex, and its edges: `get_lines_for_agent_to_obstacle_const`, before the
-- lines (01, "Rules of the edges"). Definitions only. Assumes nothing.
use Rattle.std.specs.Prelude.{ℕ, ◌+◌, ◌-◌, Bool, ◌&&◌, ◌||◌, List, [], ◌∷◌, eqb, get_or, Float}
use Rattle.std.specs.Float.{nan}
use Rattle.arithmetic.specs.Binary32.{◌≤ᶠ◌, 0ᶠ, when◌then◌else◌}
use Rattle.admission.specs.Heads.{open_kind}
use Rattle.common.specs.declared.Vec2.{Vec2}
use Rattle.common.specs.Vectors.{vec, sub_of, determinant_of}
use Rattle.edges.specs.declared.EdgeVertex.{EdgeVertex}
use Rattle.edges.specs.Edges.{OuterVertex, none, at, Edge}

-- two numbers a vertex
unfoldable pub vertices_of : List Float → List Vec2
vertices_of [] = []
vertices_of (x ∷ []) = []
vertices_of (x ∷ y ∷ rest) = vec x y ∷ vertices_of rest

-- no edge looks past the last vertex
abbrev pub vertex_at : List Vec2 → ℕ → Vec2
vertex_at vs i = get_or vs i (vec nan nan)

-- "Closed vertices wrap": the index after i and the one before it, among n
unfoldable pub next_of : ℕ → ℕ → ℕ
next_of n i = when eqb i (n - 1) then 0 else (i + 1)

unfoldable pub previous_of : ℕ → ℕ → ℕ
previous_of n i = when eqb i 0 then (n - 1) else (i - 1)

-- "an open obstacle's end vertices": the first and the last of n
unfoldable pub is_end : ℕ → ℕ → ℕ → Bool
is_end kind n i = eqb kind open_kind && (eqb i 0 || eqb i (n - 1))

-- "A vertex is convex if determinant(right − centre, left − centre) ≥ 0"
unfoldable pub convex_at : Vec2 → Vec2 → Vec2 → Bool
convex_at left centre right = 0ᶠ ≤ᶠ determinant_of (sub_of right centre) (sub_of left centre)

-- "an open obstacle's end vertices are convex"
unfoldable pub edge_vertex_at : ℕ → ℕ → List Vec2 → ℕ → EdgeVertex
edge_vertex_at kind n vs i = record {
  point = vertex_at vs i;
  convex = is_end kind n i || convex_at (vertex_at vs (previous_of n i)) (vertex_at vs i) (vertex_at vs (next_of n i));
}

-- "with no outer neighbour": beyond the end of an open obstacle there is none
unfoldable pub outer_at : ℕ → List Vec2 → ℕ → ℕ → ℕ → OuterVertex
outer_at kind vs i end beyond = when eqb kind open_kind && eqb i end then none else at (vertex_at vs beyond)

-- the edge from the vertex i of n to the next, with the vertices beyond them
unfoldable pub edge_at : ℕ → ℕ → List Vec2 → ℕ → Edge
edge_at kind n vs i =
    let j = next_of n i in
    record {
      left = edge_vertex_at kind n vs i;
      right = edge_vertex_at kind n vs j;
      left_left = outer_at kind vs i 0 (previous_of n i);
      right_right = outer_at kind vs j (n - 1) (next_of n j);
    }
