-- An edge of an obstacle as `get_line_for_agent_to_edge` takes it, and what it gives back. Definitions only. Assumes nothing.
use Rattle.std.specs.Prelude.{Float}
use Rattle.arithmetic.specs.Binary32.{bits}
use Rattle.common.specs.declared.Vec2.{Vec2}
use Rattle.lines.specs.declared.Line.{Line}
use Rattle.edges.specs.declared.EdgeVertex.{EdgeVertex}

-- "Horizon: 1/1,024 to 1,024"
abbrev pub shortest_horizon : Float
shortest_horizon = bits 0x3A80_0000

abbrev pub longest_horizon : Float
longest_horizon = bits 0x4480_0000

-- the Rust's `Option<Vec2>`: the vertex beyond an end of the edge, or none
pub data OuterVertex : Type 0 where
  none : OuterVertex
  at : Vec2 → OuterVertex

pub record Edge : Type 0 where
  pub left : EdgeVertex
  pub right : EdgeVertex
  pub left_left : OuterVertex
  pub right_right : OuterVertex

-- the two sides of an edge and of its shadow
pub data Side : Type 0 where
  on_left : Side
  on_right : Side

-- the Rust's `Option<Line>`
pub data EdgeLine : Type 0 where
  nothing : EdgeLine
  made : Line → EdgeLine
