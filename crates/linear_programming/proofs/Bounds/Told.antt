-- A call over any list of any numbers stands, or is refused with 2, 4, 6 or 7: 8 and 9 never come out of a solve of
-- admitted lines. Assumes nothing.
use mathlib.Core.Path.{◌≡◌, refl}
use Prim.Native.Nat.{ℕ, ◌%◌}
use mathlib.Core.Bool.{Bool, true, false}
use mathlib.Core.List.{List, [], ◌∷◌}
use lib.ListN.{length}
use lib.Dec.{eqb, leb}
use lib.Ieee.{Float}
use Rattle.arithmetic.specs.Binary32.{0ᶠ, finite}
use Rattle.common.specs.declared.Vec2.{Vec2}
use Rattle.common.specs.Vectors.{reach, longest, length_squared_of}
use Rattle.lines.specs.declared.Line.{Line}
use Rattle.lines.specs.Lines.{most_lines, lines_of}
use Rattle.lines.specs.LineFaults.{line_reach, band_low, band_high, line_fault, lines_fault}
use Rattle.linear_programming.specs.Whole.{Phase, Failed, Outcome, stands, refusal}
use Rattle.admission.specs.Faults.{Fault, fine, fault, must, ◌⊳◌, within, inside}
use Rattle.linear_programming.specs.Admit.{◌⟫◌, wish_fault, judged_list, list_call}
use Rattle.admission.proofs.FaultLaws.{⊳-fine}
use Rattle.linear_programming.proofs.Bounds.NeverRefused.{Stood, stood, never-refused}

-- the numbers that a list is refused with
pub data ListNumber : ℕ → Type 0 where
  no-whole-lines : ListNumber 2
  too_many : ListNumber 4
  out_of_range : ListNumber 6
  out-of-band : ListNumber 7

pub data Told : Outcome → Type 0 where
  answered : {ph : Phase} {f : Failed} {n : ℕ} → Told (stands ph f n)
  declined : {r : ℕ} → ListNumber r → Told (refusal r)

-- ---- the faults have these numbers

data Mild : Fault → Type 0 where
  passes : Mild fine
  tells : {r : ℕ} → ListNumber r → Mild (fault r)

⊳-mild : {f g : Fault} → Mild f → Mild g → Mild (f ⊳ g)
⊳-mild passes k = k
⊳-mild (tells h) k = tells h

must-mild : (b : Bool) {r : ℕ} → ListNumber r → Mild (must b r)
must-mild true h = passes
must-mild false h = tells h

wish-mild : (wish : Vec2) (limit : Float) → Mild (wish_fault wish limit)
unfolding wish_fault
wish-mild wish limit =
    ⊳-mild (must-mild (within reach wish.x) out_of_range)
    (⊳-mild (must-mild (within reach wish.y) out_of_range) (must-mild (inside 0ᶠ longest limit) out_of_range))

line-mild : (l : Line) → Mild (line_fault l)
unfolding line_fault
line-mild l =
    ⊳-mild (must-mild (within line_reach l.point.x) out_of_range)
    (⊳-mild (must-mild (within line_reach l.point.y) out_of_range)
    (⊳-mild (must-mild (finite l.direction.x) out_of_range)
    (⊳-mild (must-mild (finite l.direction.y) out_of_range)
    (must-mild (inside band_low band_high (length_squared_of l.direction)) out-of-band))))

lines-mild : (ls : List Line) → Mild (lines_fault ls)
unfolding lines_fault
lines-mild [] = passes
lines-mild (l ∷ ls) = ⊳-mild (line-mild l) (lines-mild ls)

-- ---- the calls

stood-told : {o : Outcome} → Stood o → Told o
stood-told stood = answered

-- what follows the rules is told where they pass
⟫-told : {f : Fault} {o : Outcome} → Mild f → (f ≡ fine → Told o) → Told (f ⟫ o)
⟫-told passes h = h refl
⟫-told (tells l) h = declined l

module _ (rigid : ℕ) (wish : Vec2) (limit : Float) where
  pub judged-told : (lines : List Line) → Told (judged_list rigid wish limit lines)
  unfolding judged_list
  judged-told lines =
      ⟫-told (⊳-mild (must-mild (leb (length lines) most_lines) too_many) (⊳-mild (wish-mild wish limit) (lines-mild lines)))
      (λ e.
      let a = ⊳-fine (must (leb (length lines) most_lines) 4) e in
      let b = ⊳-fine (wish_fault wish limit) a.1 in
      stood-told (never-refused rigid wish limit lines b.0 b.1))

  pub list-told : (xs : List Float) → Told (list_call rigid wish limit xs)
  unfolding list_call
  list-told xs = ⟫-told (must-mild (eqb (length xs % 4) 0) no-whole-lines) (λ e. judged-told (lines_of xs))
