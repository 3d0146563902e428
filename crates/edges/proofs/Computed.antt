-- What computing an edge's line opens, and the constants: antt computes that each bit pattern is the number that 01 or
-- the Rust gives. Assumes nothing.
use mathlib.Core.Path.{◌≡◌, refl}
use mathlib.Core.Bool.{false}
use mathlib.Core.List.{[], ◌∷◌}
use lib.Ieee.{binary32, round}
use Rattle.common.specs.Vectors.{neg_of, div_of, distance_squared_of, eq_of}
use Rattle.lines.proofs.Computed.{computed as numbers}
use Rattle.edges.specs.Edges.{shortest_horizon, longest_horizon}
use Rattle.edges.specs.Cover.{cover_epsilon, is_deep, covers, is_edge_covered}
use Rattle.edges.specs.Collision.{shape_of, in_unit, reaches, corner_line, next_handles, right_corner_line}
use Rattle.edges.specs.Shadows.{tangent, extended, side_direction, is_beyond, shadow_beside}
use Rattle.edges.specs.Cutoffs.{t_cutoff, cutoff_of, vertex_line, are_below, projects_left, projects_right, misses_cutoff, distance_unless, cutoff_line, beside_shadow, shadow_line, at_most_both, nearest_line, choose_line}
use Rattle.edges.specs.EdgeLines.{is_degenerate, line_for_shadows, alone, line_of_vertex, line_of_edge, line_past, line_in_front, line_for_edge}

unfoldable pub computed : Unit {0}
unfolding numbers neg_of div_of distance_squared_of eq_of is_deep covers is_edge_covered
    shape_of in_unit reaches corner_line next_handles right_corner_line tangent extended side_direction is_beyond shadow_beside
    t_cutoff cutoff_of vertex_line are_below projects_left projects_right misses_cutoff distance_unless cutoff_line beside_shadow
    shadow_line at_most_both nearest_line choose_line
    is_degenerate line_for_shadows alone line_of_vertex line_of_edge line_past line_in_front line_for_edge
computed = tt

-- each constant's bit pattern is the number that 01 or the Rust gives
pub constants :
    (cover_epsilon ∷ shortest_horizon ∷ longest_horizon ∷ [])
    ≡ (round binary32 false 1 100000 ∷ round binary32 false 1 1024 ∷ round binary32 false 1024 1 ∷ [])
unfolding computed
constants = refl
