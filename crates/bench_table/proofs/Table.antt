-- 01, "Bench cases": P1 to P12 as one table with one claim. antt computes each row by the definitions that the
-- contracts of `solve_linear_program`, `sqrt` and `get_lines_for_agent_to_obstacle` cite. Zeros stand as the rules give
-- them: P6, P10 and P11 have a −0. Assumes nothing.
use Prim.Native.Nat.{ℕ}
use mathlib.Core.Path.{◌≡◌, refl}
use mathlib.Core.Bool.{true, false}
use mathlib.Core.List.{List, [], ◌∷◌, map}
use lib.IntN.{negsuc}
use lib.ListN.{length, replicate}
use lib.Ieee.{Float, fin}
use Rattle.arithmetic.specs.Binary32.{bits, halfᶠ}
use Rattle.arithmetic.specs.Root.{sqrt_of}
use Rattle.common.specs.declared.Vec2.{Vec2}
use Rattle.common.specs.Vectors.{vec, longest}
use Rattle.lines.specs.declared.Line.{Line}
use Rattle.lines.specs.Lines.{line, lines_of, numbers_of}
use Rattle.lines.specs.LineFaults.{lines_fault}
use Rattle.one_line.specs.OneLine.{Cause, circle, parallel, crossing}
use Rattle.linear_programming.specs.Whole.{Outcome, stands, refusal, solving, relaxing, rigid_failure, Failed, no_line, failed_line}
use Rattle.linear_programming.specs.Admit.{wish_fault, judged_list, list_call}
use Rattle.linear_programming.proofs.Computed.{computed as solved, +, −}
use Rattle.edges.specs.declared.Agent.{Agent}
use Rattle.obstacles.specs.Obstacles.{Answer, lines, refused, obstacle_call}
use Rattle.obstacles.proofs.Computed.{computed}

-- a list with its rigid count, wish and limit; a number whose root is asked; an obstacle of so many vertices, with its
-- numbers, beside an agent at rest at the origin, with margin and horizon
pub data Asked : Type 0 where
  list : ℕ → Vec2 → Float → List Line → Asked
  root : Float → Asked
  numbers : ℕ → ℕ → List Float → Float → Float → Asked

pub data Answered : Type 0 where
  ends : Outcome → Answered
  is : Float → Answered
  makes : Answer → Answered

pub record Case : Type 0 where
  pub asked : Asked
  pub answered : Answered

infix 5 ◌gives◌
abbrev ◌gives◌ : Asked → Answered → Case
q gives a = record { asked = q; answered = a }

-- the numbers of vertices, two each
abbrev corners : List Vec2 → List Float
corners [] = []
corners (v ∷ vs) = v.x ∷ v.y ∷ corners vs

abbrev still : Agent
still = record { position = vec (+ 0) (+ 0); velocity = vec (+ 0) (+ 0) }

abbrev pub by_the_rules : Asked → Answered
by_the_rules (list rigid wish limit ls) = ends (list_call rigid wish limit (numbers_of ls))
by_the_rules (root x) = is (sqrt_of x)
by_the_rules (numbers kind count xs margin horizon) = makes (obstacle_call still kind xs count margin horizon)

-- with its vertices' numbers, and horizon 1
abbrev obstacle : ℕ → Float → List Vec2 → Asked
obstacle kind margin vs = numbers kind (length vs) (corners vs) margin (+ 1)

-- ---- the table

abbrev at : ℕ → Cause → Failed
at k cause = failed_line (record { index = k; cause = cause })

abbrev o : Vec2
o = vec (+ 0) (+ 0)

abbrev right : Vec2
right = vec (+ 1) (+ 0)

abbrev A : Line
A = line (vec (+ 0) (+ 1)) right

abbrev B : Line
B = line (vec (+ 0) (− 1)) (vec (− 1) (+ 0))

abbrev far : Line
far = line (vec (+ 0) (+ 3)) right

-- met by the origin
abbrev behind : Line
behind = line (vec (+ 0) (− 1)) right

-- −√3 rounded
abbrev −√3 : Float
−√3 = fin true 14529495 (negsuc 22)

-- (−1,1), (1,1), and the two exchanged
abbrev wall : List Vec2
wall = vec (− 1) (+ 1) ∷ vec (+ 1) (+ 1) ∷ []

abbrev turned : List Vec2
turned = vec (+ 1) (+ 1) ∷ vec (− 1) (+ 1) ∷ []

-- the f32 next above 1,024
abbrev too_fast : Float
too_fast = bits 0x4480_0001

-- met by no value that the circle and A leave
abbrev below : Line
below = line (vec (+ 0) (− 3)) (vec (− 1) (+ 0))

-- met by the origin and A's values
abbrev lower : Line
lower = line (vec (+ 0) (− 2)) right

-- 1.5
abbrev three_halves : Float
three_halves = bits 0x3FC0_0000

-- below −1.5
abbrev lowered : Line
lowered = line (vec (+ 0) (bits 0xBFC0_0000)) (vec (− 1) (+ 0))

-- (−1.9843135, −0.25), and 1.25
abbrev left_over : Vec2
left_over = vec (bits 0xBFFD_FDFC) (bits 0xBE80_0000)

abbrev five_quarters : Float
five_quarters = bits 0x3FA0_0000

-- above 1.5, and to the right of 1.5: each meets the circle, but not within the other
abbrev high : Line
high = line (vec (+ 0) three_halves) right

abbrev aside : Line
aside = line (vec three_halves (+ 0)) (vec (+ 0) (− 1))

pub table : List Case
table =
    -- P1, P2
    (list 0 (vec (+ 3) (+ 4)) (+ 5) [] gives ends (stands (solving (vec (+ 3) (+ 4))) no_line 0))
    ∷ (list 0 (vec (+ 4) (+ 0)) (+ 2) [] gives ends (stands (solving (vec (+ 2) (+ 0))) no_line 0))
    -- P3, P4
    ∷ (list 0 o (+ 2) (A ∷ []) gives ends (stands (solving (vec (+ 0) (+ 1))) no_line 1))
    ∷ (list 0 right (+ 2) (line o right ∷ []) gives ends (stands (solving right) no_line 1))
    -- P5, P6
    ∷ (list 1 o (+ 2) (far ∷ []) gives ends (stands (rigid_failure 0 o) (at 0 circle) 1))
    ∷ (list 0 o (+ 2) (far ∷ []) gives ends (stands (relaxing (vec (− 0) (+ 2)) (+ 1)) (at 0 circle) 2))
    -- P7, P8, P9
    ∷ (list 0 o (+ 2) (A ∷ B ∷ []) gives ends (stands (relaxing (vec (− 2) (+ 0)) (+ 1)) (at 1 (parallel 0)) 6))
    ∷ (list 1 o (+ 2) (A ∷ B ∷ []) gives ends (stands (relaxing (vec −√3 (+ 1)) (+ 2)) (at 1 (parallel 0)) 5))
    ∷ (list 2 o (+ 2) (A ∷ B ∷ []) gives ends (stands (rigid_failure 1 (vec (+ 0) (+ 1))) (at 1 (parallel 0)) 3))
    -- a line that the circle leaves nothing of, though a parallel one does not either; the index in the whole list;
    -- ends that cross
    ∷ (list 2 o (+ 2) (A ∷ below ∷ []) gives ends (stands (rigid_failure 1 (vec (+ 0) (+ 1))) (at 1 circle) 2))
    ∷ (list 3 o (+ 2) (lower ∷ A ∷ B ∷ []) gives ends (stands (rigid_failure 2 (vec (+ 0) (+ 1))) (at 2 (parallel 1)) 6))
    ∷ (list 2 o (+ 2) (high ∷ aside ∷ []) gives ends (stands (rigid_failure 1 (vec (+ 0) three_halves)) (at 1 (crossing 0)) 3))
    -- the second relaxed line examines the two before it, one skipped and one kept
    ∷ (list 0 o (+ 2) (A ∷ B ∷ lowered ∷ []) gives ends (stands (relaxing left_over five_quarters) (at 1 (parallel 0)) 10))
    -- P10
    ∷ (root (fin false 1 (negsuc 147)) gives is (fin false 1 (negsuc 73)))
    ∷ (root (− 0) gives is (− 0))
    ∷ (root (+ 4) gives is (+ 2))
    -- P11
    ∷ (obstacle 2 (+ 2) wall gives makes (lines (line o (vec (− 1) (− 0)) ∷ [])))
    ∷ (obstacle 2 halfᶠ wall gives makes (lines (line (vec (− 1) halfᶠ) (vec (− 1) (− 0)) ∷ [])))
    ∷ (obstacle 2 (+ 2) turned gives makes (lines []))
    ∷ (obstacle 2 halfᶠ turned gives makes (lines []))
    -- its wall with a horizon out of range
    ∷ (numbers 2 2 (corners wall) (+ 2) (+ 2048) gives makes (refused 6))
    -- P12, which 02's T-11 makes two refusals
    ∷ (obstacle 1 (+ 1) (vec (+ 5) (+ 0) ∷ []) gives makes (refused 14))
    ∷ (obstacle 1 (+ 1) (vec halfᶠ (+ 0) ∷ []) gives makes (refused 14))
    -- a vertex again but for a zero's sign, at the end of a closed obstacle and of an open one
    ∷ (obstacle 1 (+ 1) (vec (+ 0) (+ 5) ∷ vec (+ 1) (+ 5) ∷ vec (− 0) (+ 5) ∷ []) gives makes (refused 14))
    ∷ (obstacle 2 (+ 1) (vec (+ 0) (+ 5) ∷ vec (− 0) (+ 5) ∷ []) gives makes (refused 14))
    -- no vertices, and a number left over
    ∷ (numbers 1 0 (+ 0 ∷ []) (+ 1) (+ 1) gives makes (refused 2))
    -- 256 lines pass, 257 get 4; limit 1,024 passes, the next f32 gets 6
    ∷ (list 0 o (+ 2) (replicate 256 behind) gives ends (stands (solving o) no_line 256))
    ∷ (list 0 o (+ 2) (replicate 257 behind) gives ends (refusal 4))
    ∷ (list 0 o longest [] gives ends (stands (solving o) no_line 0))
    ∷ (list 0 o too_fast [] gives ends (refusal 6))
    ∷ []

-- each row's question, answered by the rules, has the row's answer
pub bench : map (λ (c : Case). by_the_rules c.asked) table ≡ map (λ (c : Case). c.answered) table
unfolding table computed solved list_call judged_list lines_of numbers_of wish_fault lines_fault
bench = refl
