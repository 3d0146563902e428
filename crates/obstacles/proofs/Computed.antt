-- What computing an obstacle's faults and its lines opens. Assumes nothing.
use Rattle.admission.specs.Faults.{within, inside}
use Rattle.admission.specs.Heads.{is_kind, room_for, is_empty_open}
use Rattle.common.specs.Vectors.{eq_of}
use Rattle.lines.specs.LineFaults.{line_fault}
use Rattle.edges.proofs.Computed.{computed as edges}
use Rattle.obstacles.specs.ObstacleFaults.{vector_fault, agent_fault, number_fault, components_fault, vertex_fault, vertices_fault, head_fault, outline_fault, obstacle_fault}
use Rattle.obstacles.specs.Vertices.{vertices_of, next_of, previous_of, is_end, convex_at, edge_vertex_at, outer_at, edge_at}
use Rattle.obstacles.specs.Doubled.{doubled, follows, last_of, closes}
use Rattle.obstacles.specs.Obstacles.{admitted, add_edge, lines_up_to, edge_count, ends_of, obstacle_lines, obstacle_call}

unfoldable pub faults_computed : Unit {0}
unfolding within inside vector_fault agent_fault is_kind room_for is_empty_open head_fault number_fault components_fault eq_of
    doubled follows vertex_fault vertices_fault
    vertices_of last_of closes outline_fault obstacle_fault
faults_computed = tt

unfoldable pub computed : Unit {0}
unfolding edges faults_computed line_fault next_of previous_of is_end convex_at edge_vertex_at outer_at edge_at
    admitted add_edge lines_up_to edge_count ends_of obstacle_lines obstacle_call
computed = tt
