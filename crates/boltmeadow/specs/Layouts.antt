-- What lent obstacles are asked, as a C caller is told. Definitions only. Assumes nothing.
use Rattle.std.specs.Prelude.{ℕ, Float, Result, Ok, Err}
use Rattle.admission.specs.declared.refusal.Refusal.{Refusal}
use Rattle.admission.specs.Refusals.{number_of}
use Rattle.common.specs.Vectors.{vec}
use Rattle.edges.specs.declared.Agent.{Agent}
use Rattle.obstacles.specs.declared.ObstacleLines.{ObstacleLines}
use Rattle.obstacles.specs.Obstacles.{Answer, lines, refused as no_lines_for}
use Rattle.obstacles.specs.Read.{blank_numbers, answer_as}
use Rattle.wall_check.specs.Crossings.{WallCheck, crossed, clear, refused}
use Rattle.boltmeadow.specs.declared.walls.BmCrossing.{BmCrossing}
use Rattle.boltmeadow.specs.declared.walls.BmObstacleLines.{BmObstacleLines}

-- a cart by its four numbers
abbrev pub agent_at : Float → Float → Float → Float → Agent
agent_at px py vx vy = record { position = vec px py; velocity = vec vx vy }

unfoldable pub crossing : ℕ → ℕ → ℕ → ℕ → BmCrossing
crossing number edges obstacle vertex = record { refusal = number; edges = edges; obstacle = obstacle; vertex = vertex }

abbrev pub crossing_told : WallCheck → BmCrossing
crossing_told (crossed obstacle vertex n) = crossing 0 n obstacle vertex
crossing_told clear = crossing 0 0 0 0
crossing_told (refused r) = crossing r 0 0 0

-- the number alone
unfoldable pub no_obstacle : ℕ → BmObstacleLines
no_obstacle number = record { refusal = number; count = 0; lines = blank_numbers }

-- what is told of the code's answer
abbrev pub lines_told : Result ObstacleLines Refusal → BmObstacleLines
lines_told (Ok o) = record { refusal = 0; count = o.count; lines = o.lines }
lines_told (Err r) = no_obstacle (number_of r)

-- the lines as the code hands them over; or the definition's own number
abbrev pub obstacle_told : Answer → BmObstacleLines
obstacle_told (lines ls) = lines_told (answer_as (lines ls))
obstacle_told (no_lines_for r) = no_obstacle r
