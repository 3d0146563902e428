-- What each value of the code says, in the Rust's values. Definitions only. Assumes nothing.
use Rattle.std.specs.Prelude.{Option, Some, None}
use Rattle.common.specs.declared.Vec2.{Vec2}
use Rattle.lines.specs.declared.Line.{Line}
use Rattle.edges.specs.declared.Edge.{Edge as EdgeCode}
use Rattle.edges.specs.declared.Side.{Side as SideCode}
use Rattle.edges.specs.declared.Side.TheVariants as side-code
use Rattle.edges.specs.Edges.{OuterVertex, none, at, Edge, Side, on_left, on_right, EdgeLine, nothing, made}

abbrev pub outer_of : Option Vec2 → OuterVertex
outer_of (Some v) = at v
outer_of None = none

abbrev pub edge_of : EdgeCode → Edge
edge_of e = record {
  left = e.left_vertex;
  right = e.right_vertex;
  left_left = outer_of e.left_left_vertex;
  right_right = outer_of e.right_right_vertex;
}

abbrev pub side_of : SideCode → Side
side_of side-code.Left = on_left
side_of side-code.Right = on_right

abbrev pub edge_line_of : Option Line → EdgeLine
edge_line_of (Some l) = made l
edge_line_of None = nothing

-- and back: the line, or none
abbrev pub edge_line_as : EdgeLine → Option Line
edge_line_as (made l) = Some l
edge_line_as nothing = None
