-- The line of one edge: `get_line_for_agent_to_edge`, branch by branch. A comparison with a NaN is false. Definitions
-- only. Assumes nothing.
use Rattle.std.specs.Prelude.{Bool, List, Float}
use Rattle.arithmetic.specs.Binary32.{◌⊘◌, ◌<ᶠ◌, 0ᶠ, 1ᶠ, when◌then◌else◌}
use Rattle.common.specs.declared.Vec2.{Vec2}
use Rattle.common.specs.Vectors.{zero_vector, sub_of, neg_of, eq_of, determinant_of}
use Rattle.lines.specs.declared.Line.{Line}
use Rattle.lines.specs.Lines.{line}
use Rattle.edges.specs.declared.Agent.{Agent}
use Rattle.edges.specs.declared.EdgeShape.{EdgeShape}
use Rattle.edges.specs.Edges.{at, Edge, Side, on_left, on_right, EdgeLine, nothing, made}
use Rattle.edges.specs.Cover.{is_edge_covered}
use Rattle.edges.specs.Collision.{shape_of, in_unit, reaches, corner_line, right_corner_line}
use Rattle.edges.specs.Shadows.{tangent, side_direction, shadow_beside}
use Rattle.edges.specs.Cutoffs.{cutoff_of, choose_line}

-- `left_vertex.point == right_vertex.point`
unfoldable pub is_degenerate : Edge → Bool
is_degenerate e = eq_of e.left.point e.right.point

-- from "let mut is_left_shadow_covered" on: the edge's vertices are those that the shadow's directions belong to
unfoldable pub line_for_shadows : Agent → Edge → Bool → Vec2 → Vec2 → Float → Float → EdgeLine
line_for_shadows agent e degenerate left_direction right_direction margin horizon =
    let left = shadow_beside on_left e.left e.left_left left_direction in
    let right = shadow_beside on_right e.right e.right_right right_direction in
    choose_line agent.velocity
    (cutoff_of agent e.left.point e.right.point degenerate left.direction right.direction horizon)
    left
    right
    (margin ⊘ horizon)

-- "The right vertex is covered by the shadow of the left": right_right_vertex = Some(right_vertex.point), right_vertex
-- = left_vertex; or the other way round
unfoldable pub alone : Side → Edge → Edge
alone on_left e = record { left = e.left; right = e.left; left_left = e.left_left; right_right = at e.right.point }
alone on_right e = record { left = e.right; right = e.right; left_left = at e.left.point; right_right = e.right_right }

-- the shadow is only defined by the vertex on one side; nothing where that is not convex. Degenerate is decided after
-- the exchange: the edge is, then
unfoldable pub line_of_vertex : Agent → Side → Edge → Vec2 → Float → Float → Float → EdgeLine
line_of_vertex agent side e relative dist margin horizon =
    let v = alone side e in
    when v.left.convex
    then line_for_shadows agent v (is_degenerate v) (tangent on_left relative dist margin)
    (tangent on_right relative dist margin) margin horizon
    else nothing

-- both vertices define the shadow: "The left of the shadow is defined by the left vertex", "The same reasoning as the
-- left shadow applies for the right shadow"
unfoldable pub line_of_edge : Agent → Edge → EdgeShape → Float → Float → EdgeLine
line_of_edge agent e s margin horizon =
    line_for_shadows agent e (is_degenerate e)
    (side_direction on_left e.left.convex s.relative_left_vertex s.dist_left_squared margin s.edge_unit_vector)
    (side_direction on_right e.right.convex s.relative_right_vertex s.dist_right_squared margin
    s.edge_unit_vector)
    margin
    horizon

-- "The agent is not colliding with the edge": one vertex shadows it, the left or the right, or neither does
unfoldable pub line_past : Agent → Edge → EdgeShape → Float → Float → EdgeLine
line_past agent e s margin horizon =
    when reaches (s.edge_t <ᶠ 0ᶠ) s.dist_to_edge_line_squared s.squared_radius
    then line_of_vertex agent on_left e s.relative_left_vertex s.dist_left_squared margin horizon
    else when reaches (1ᶠ <ᶠ s.edge_t) s.dist_to_edge_line_squared s.squared_radius
    then line_of_vertex agent on_right e s.relative_right_vertex s.dist_right_squared margin horizon
    else line_of_edge agent e s margin horizon

-- "If the distance to the edge is less than the radius, the agent is colliding with the edge": the left vertex, the
-- right one, the edge between them
unfoldable pub line_in_front : Agent → Edge → EdgeShape → Float → Float → EdgeLine
line_in_front agent e s margin horizon =
    when reaches (s.edge_t <ᶠ 0ᶠ) s.dist_left_squared s.squared_radius
    then made (corner_line e.left.convex s.relative_left_vertex s.edge_unit_vector)
    else when reaches (1ᶠ <ᶠ s.edge_t) s.dist_right_squared s.squared_radius
    then right_corner_line e s
    else when reaches (in_unit s.edge_t) s.dist_to_edge_line_squared s.squared_radius
    then made (line zero_vector (neg_of s.edge_unit_vector))
    else line_past agent e s margin horizon

-- "If the agent is already on the wrong side of the edge", or the edge is "already covered by existing lines", there is no line
unfoldable pub line_for_edge : Agent → Edge → Float → Float → List Line → EdgeLine
line_for_edge agent e margin horizon existing =
    let left = sub_of e.left.point agent.position in
    let right = sub_of e.right.point agent.position in
    let edge = sub_of e.right.point e.left.point in
    when determinant_of (neg_of left) edge <ᶠ 0ᶠ then nothing
    else when is_edge_covered left right horizon margin existing then nothing
    else line_in_front agent e (shape_of left right edge margin) margin horizon
