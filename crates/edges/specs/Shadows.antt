-- The shadow of an edge: the directions of its sides, and whether the edges beyond cover them. Definitions only. Assumes nothing.
use Rattle.std.specs.Prelude.{Bool, true, false, ◌&&◌, Float}
use Rattle.arithmetic.specs.Binary32.{◌⊖◌, ◌⊗◌, ◌≤ᶠ◌, 0ᶠ, when◌then◌else◌}
use Rattle.arithmetic.specs.Root.{sqrt_of}
use Rattle.common.specs.declared.Vec2.{Vec2}
use Rattle.common.specs.Vectors.{add_of, sub_of, neg_of, mul_of, div_of, perp_of, normalize_of, determinant_of}
use Rattle.edges.specs.declared.EdgeVertex.{EdgeVertex}
use Rattle.edges.specs.declared.Shadow.{Shadow}
use Rattle.edges.specs.Edges.{OuterVertex, none, at, Side, on_left, on_right}

-- the tangent to the circle of the margin around a vertex, "tangent_triangle_leg" long: added on the left side,
-- subtracted on the right
unfoldable pub tangent : Side → Vec2 → Float → Float → Vec2
tangent on_left relative dist margin =
    div_of (add_of (mul_of relative (sqrt_of (dist ⊖ margin ⊗ margin))) (mul_of (perp_of relative) margin)) dist
tangent on_right relative dist margin =
    div_of (sub_of (mul_of relative (sqrt_of (dist ⊖ margin ⊗ margin))) (mul_of (perp_of relative) margin)) dist

-- the edge extended to a side
unfoldable pub extended : Side → Vec2 → Vec2
extended on_left unit = neg_of unit
extended on_right unit = unit

-- "if left_vertex.convex", "if right_vertex.convex"
unfoldable pub side_direction : Side → Bool → Vec2 → Float → Float → Vec2 → Vec2
side_direction side convex relative dist margin unit = when convex then tangent side relative dist margin else extended side unit

-- determinant(left_shadow_direction, left_edge_direction) >= 0.0, determinant(right_shadow_direction,
-- right_edge_direction) <= 0.0
unfoldable pub is_beyond : Side → Vec2 → Vec2 → Bool
is_beyond on_left direction outer = 0ᶠ ≤ᶠ determinant_of direction outer
is_beyond on_right direction outer = determinant_of direction outer ≤ᶠ 0ᶠ

-- a convex vertex whose adjacent edge covers the shadow takes that edge's direction
unfoldable pub shadow_beside : Side → EdgeVertex → OuterVertex → Vec2 → Shadow
shadow_beside side vertex none direction = record { direction = direction; covered = false }
shadow_beside side vertex (at v) direction =
    let outer = sub_of v vertex.point in
    when vertex.convex && is_beyond side direction outer
    then record { direction = normalize_of outer; covered = true }
    else record { direction = direction; covered = false }
