-- An agent that collides with an edge: what is worked out of the edge once, and the lines of the corners. Definitions
-- only. Assumes nothing.
use Rattle.std.specs.Prelude.{Bool, false, ◌&&◌, Float}
use Rattle.arithmetic.specs.Binary32.{◌⊗◌, ◌⊘◌, ◌≤ᶠ◌, ◌<ᶠ◌, 0ᶠ, 1ᶠ, when◌then◌else◌}
use Rattle.common.specs.declared.Vec2.{Vec2}
use Rattle.common.specs.Vectors.{zero_vector, sub_of, neg_of, mul_of, dot_of, perp_of, length_squared_of, distance_squared_of, normalize_of, determinant_of}
use Rattle.lines.specs.declared.Line.{Line}
use Rattle.lines.specs.Lines.{line}
use Rattle.edges.specs.declared.EdgeShape.{EdgeShape}
use Rattle.edges.specs.declared.EdgeVertex.{EdgeVertex}
use Rattle.edges.specs.Edges.{OuterVertex, none, at, Edge, EdgeLine, nothing, made}

-- `edge_unit_vector` to `dist_to_edge_line_squared`, from the relative vertices and the edge vector
unfoldable pub shape_of : Vec2 → Vec2 → Vec2 → Float → EdgeShape
shape_of left right edge margin =
    let agent_from_left = neg_of left in
    let t = dot_of agent_from_left edge ⊘ length_squared_of edge in
    record {
      relative_left_vertex = left;
      relative_right_vertex = right;
      edge_unit_vector = normalize_of edge;
      dist_left_squared = length_squared_of left;
      dist_right_squared = length_squared_of right;
      squared_radius = margin ⊗ margin;
      edge_t = t;
      dist_to_edge_line_squared = distance_squared_of (mul_of edge t) agent_from_left;
    }

-- (0.0..=1.0).contains(&t)
unfoldable pub in_unit : Float → Bool
in_unit t = 0ᶠ ≤ᶠ t && t ≤ᶠ 1ᶠ

-- a test of `edge_t`, and a squared distance that is at most the squared radius
unfoldable pub reaches : Bool → Float → Float → Bool
reaches there distance radius = there && distance ≤ᶠ radius

-- the agent collides with a vertex: "if !convex", along the edge; else across the way to the vertex
unfoldable pub corner_line : Bool → Vec2 → Vec2 → Line
corner_line convex relative unit = when convex then line zero_vector (normalize_of (perp_of relative)) else line zero_vector (neg_of unit)

-- "If the right edge goes to the right of the right vertex", which is asked of a convex one that has a next edge
unfoldable pub next_handles : EdgeVertex → Vec2 → OuterVertex → Bool
next_handles vertex relative (at v) = vertex.convex && determinant_of relative (sub_of v vertex.point) <ᶠ 0ᶠ
next_handles vertex relative none = false

-- the right vertex: the next edge may handle the collision
unfoldable pub right_corner_line : Edge → EdgeShape → EdgeLine
right_corner_line e s =
    when next_handles e.right s.relative_right_vertex e.right_right then nothing
    else made (corner_line e.right.convex s.relative_right_vertex s.edge_unit_vector)
