-- 01, "What is admitted" and "Refusal numbers" for a line list: the first fault in order is told. Definitions only.
-- Assumes nothing.
use Rattle.std.specs.Prelude.{ℕ, ◌%◌, List, length, leb, eqb, Float}
use Rattle.arithmetic.specs.Binary32.{0ᶠ}
use Rattle.admission.specs.Faults.{Fault, must, ◌⊳◌, unless_fault, within, inside}
use Rattle.common.specs.declared.Vec2.{Vec2}
use Rattle.common.specs.Vectors.{reach, longest}
use Rattle.lines.specs.declared.Line.{Line}
use Rattle.lines.specs.Lines.{most_lines, lines_of}
use Rattle.lines.specs.LineFaults.{lines_fault}
use Rattle.linear_programming.specs.Whole.{Outcome, refusal, whole_list}

infix 15 ◌⟫◌
-- what comes where there is no fault
abbrev pub ◌⟫◌ : Fault → Outcome → Outcome
f ⟫ o = unless_fault refusal f o

-- ---- the fault of a wish with its limit

-- "wish x, wish y, limit (6)"
unfoldable pub wish_fault : Vec2 → Float → Fault
wish_fault wish limit = must (within reach wish.x) 6 ⊳ must (within reach wish.y) 6 ⊳ must (inside 0ᶠ longest limit) 6

-- ---- the single call

-- a complete list of lines: 4; wish and limit; lines; then the rules, whose first word is the starting point's (9)
unfoldable pub judged_list : ℕ → Vec2 → Float → List Line → Outcome
judged_list rigid wish limit lines =
    (must (leb (length lines) most_lines) 4 ⊳ wish_fault wish limit ⊳ lines_fault lines) ⟫ whole_list rigid wish limit lines

-- "four numbers a line, else 2"
abbrev pub fours : List Float → Fault
fours xs = must (eqb (length xs % 4) 0) 2

unfoldable pub list_call : ℕ → Vec2 → Float → List Float → Outcome
list_call rigid wish limit xs = fours xs ⟫ judged_list rigid wish limit (lines_of xs)

-- ---- the call of a list that is known to be admitted: how many numbers there are, then the rules

-- a complete list of lines: 4
abbrev pub few : List Line → Fault
few lines = must (leb (length lines) most_lines) 4

unfoldable pub count_fault : List Float → Fault
count_fault xs = fours xs ⊳ few (lines_of xs)

unfoldable pub admitted_call : ℕ → Vec2 → Float → List Float → Outcome
admitted_call rigid wish limit xs = count_fault xs ⟫ whole_list rigid wish limit (lines_of xs)
