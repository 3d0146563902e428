-- The edge in velocity space, cut off at the horizon, and the line where the velocity projects to it or to its shadows.
-- Definitions only. Assumes nothing.
use Rattle.std.specs.Prelude.{Bool, false, not, ◌&&◌, ◌||◌, Float}
use Rattle.std.specs.Float.{inf}
use Rattle.arithmetic.specs.Binary32.{◌⊘◌, ◌≤ᶠ◌, ◌<ᶠ◌, 0ᶠ, 1ᶠ, halfᶠ, when◌then◌else◌}
use Rattle.common.specs.declared.Vec2.{Vec2}
use Rattle.common.specs.Vectors.{add_of, sub_of, neg_of, mul_of, div_of, dot_of, perp_of, length_squared_of, normalize_of}
use Rattle.lines.specs.declared.Line.{Line}
use Rattle.lines.specs.Lines.{line}
use Rattle.edges.specs.declared.Agent.{Agent}
use Rattle.edges.specs.declared.Cutoff.{Cutoff}
use Rattle.edges.specs.declared.Shadow.{Shadow}
use Rattle.edges.specs.Edges.{Side, on_left, on_right, EdgeLine, nothing, made}
use Rattle.edges.specs.Collision.{in_unit}

-- f32::INFINITY
abbrev pub infinity : Float
infinity = inf false

-- "A degenerate edge takes cutoff time 0.5"
unfoldable pub t_cutoff : Bool → Vec2 → Vec2 → Vec2 → Float
t_cutoff degenerate velocity left_cutoff cutoff_vector =
    when degenerate then halfᶠ else (dot_of (sub_of velocity left_cutoff) cutoff_vector ⊘ length_squared_of cutoff_vector)

-- `left_cutoff` to `t_right_shadow`, of the points that the shadow's vertices have and the shadow's directions
unfoldable pub cutoff_of : Agent → Vec2 → Vec2 → Bool → Vec2 → Vec2 → Float → Cutoff
cutoff_of agent left right degenerate left_direction right_direction horizon =
    let left_cutoff = div_of (sub_of left agent.position) horizon in
    let right_cutoff = div_of (sub_of right agent.position) horizon in
    let cutoff_vector = sub_of right_cutoff left_cutoff in
    record {
      left_cutoff = left_cutoff;
      right_cutoff = right_cutoff;
      cutoff_vector = cutoff_vector;
      is_degenerate_edge = degenerate;
      t_cutoff_edge = t_cutoff degenerate agent.velocity left_cutoff cutoff_vector;
      t_left_shadow = dot_of (sub_of agent.velocity left_cutoff) left_direction;
      t_right_shadow = dot_of (sub_of agent.velocity right_cutoff) right_direction;
    }

-- the line at a cutoff circle: `velocity_from_left_cutoff`, `velocity_from_right_cutoff`
unfoldable pub vertex_line : Vec2 → Vec2 → Float → EdgeLine
vertex_line velocity cutoff reach =
    let v = normalize_of (sub_of velocity cutoff) in
    made (line (add_of cutoff (mul_of v reach)) (neg_of (perp_of v)))

unfoldable pub are_below : Float → Float → Bool
are_below t shadow = t <ᶠ 0ᶠ && shadow <ᶠ 0ᶠ

-- "If the velocity is to the left of the edge, and does not project to the left shadow", or the edge is degenerate and
-- it projects to neither
unfoldable pub projects_left : Cutoff → Bool
projects_left k = are_below k.t_cutoff_edge k.t_left_shadow ||
    (k.is_degenerate_edge && are_below k.t_left_shadow k.t_right_shadow)

unfoldable pub projects_right : Float → Float → Bool
projects_right t shadow = 1ᶠ <ᶠ t && shadow <ᶠ 0ᶠ

-- "!(0.0..=1.0).contains(&t_cutoff_edge) || is_degenerate_edge"
unfoldable pub misses_cutoff : Cutoff → Bool
misses_cutoff k = not (in_unit k.t_cutoff_edge) || k.is_degenerate_edge

-- infinity, or the squared distance of the velocity from start + t * direction
unfoldable pub distance_unless : Bool → Vec2 → Vec2 → Float → Vec2 → Float
distance_unless missed velocity start t direction =
    when missed then infinity else length_squared_of (sub_of velocity (add_of start (mul_of direction t)))

-- the three lines of the last choice
unfoldable pub cutoff_line : Cutoff → Float → EdgeLine
cutoff_line k reach =
    let d = neg_of (normalize_of k.cutoff_vector) in
    made (line (add_of k.left_cutoff (mul_of (perp_of d) reach)) d)

unfoldable pub beside_shadow : Side → Vec2 → Vec2 → Float → Line
beside_shadow on_left cutoff d reach = line (add_of cutoff (mul_of (perp_of d) reach)) d
beside_shadow on_right cutoff d reach = line (sub_of cutoff (mul_of (perp_of d) reach)) (neg_of d)

unfoldable pub shadow_line : Side → Vec2 → Shadow → Float → EdgeLine
shadow_line side cutoff shadow reach =
    when shadow.covered then nothing else made (beside_shadow side cutoff shadow.direction reach)

unfoldable pub at_most_both : Float → Float → Float → Bool
at_most_both a b c = a ≤ᶠ b && a ≤ᶠ c

-- "Finally, project to the left shadow, the right shadow, or the cutoff line, whichever is closest to the velocity"
unfoldable pub nearest_line : Vec2 → Cutoff → Shadow → Shadow → Float → EdgeLine
nearest_line velocity k left right reach =
    let to_cutoff = distance_unless (misses_cutoff k) velocity k.left_cutoff k.t_cutoff_edge k.cutoff_vector in
    let to_left = distance_unless (k.t_left_shadow <ᶠ 0ᶠ) velocity k.left_cutoff k.t_left_shadow left.direction in
    let to_right = distance_unless (k.t_right_shadow <ᶠ 0ᶠ) velocity k.right_cutoff k.t_right_shadow
    right.direction in
    when at_most_both to_cutoff to_left to_right then cutoff_line k reach
    else when to_left ≤ᶠ to_right then shadow_line on_left k.left_cutoff left reach
    else shadow_line on_right k.right_cutoff right reach

unfoldable pub choose_line : Vec2 → Cutoff → Shadow → Shadow → Float → EdgeLine
choose_line velocity k left right reach =
    when projects_left k then vertex_line velocity k.left_cutoff reach
    else when projects_right k.t_cutoff_edge k.t_right_shadow then vertex_line velocity k.right_cutoff reach
    else nearest_line velocity k left right reach
