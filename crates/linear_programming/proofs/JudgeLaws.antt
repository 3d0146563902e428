-- Laws of rules before an outcome (`◌⟫◌`): two rules are told as one, and what stands passed them; and of the call of
-- a list, which is admitted by its count and then by its numbers. Assumes nothing.
use Prim.Native.Nat.{ℕ, ◌/◌, ◌≤◌}
use mathlib.Core.Path.{◌≡◌, refl}
use mathlib.Core.List.{List}
use native.Mathlib.Omega.{arith}
use lib.Dec.{leb}
use lib.ListN.{length}
use lib.Ieee.{Float}
use borrow.Author.Tests.{leb-true}
use Rattle.admission.specs.Faults.{Fault, fine, fault, ◌⊳◌}
use Rattle.admission.proofs.FaultLaws.{⊳-fine, must-fine}
use Rattle.common.specs.declared.Vec2.{Vec2}
use Rattle.lines.specs.Lines.{most_lines, lines_of}
use Rattle.lines.specs.LineFaults.{lines_fault}
use Rattle.lines.proofs.Rows.{lines_long}
use Rattle.linear_programming.specs.Whole.{Phase, Failed, Outcome, stands, whole_list}
use Rattle.linear_programming.specs.Admit.{◌⟫◌, wish_fault, fours, few, judged_list, list_call, count_fault, admitted_call}

pub ⟫-assoc : (f g : Fault) (o : Outcome) → ((f ⊳ g) ⟫ o) ≡ (f ⟫ (g ⟫ o))
⟫-assoc fine g o = refl
⟫-assoc (fault r) g o = refl

-- what stands was not refused: each rule before it passed
pub ⟫-stands : (f : Fault) {o : Outcome} {ph : Phase} {k : Failed} {n : ℕ} → (f ⟫ o) ≡ stands ph k n →
    (f ≡ fine) × (o ≡ stands ph k n)
⟫-stands fine e = (refl, e)
⟫-stands (fault r) e = let z : ◌≡◌ {A = ℕ} 0 1 = cc in absurd (omega arith)

⟫-order : (f g h : Fault) (o : Outcome) → (f ⟫ ((g ⊳ h) ⟫ o)) ≡ ((f ⊳ g) ⟫ (h ⟫ o))
⟫-order fine g h o = ⟫-assoc g h o
⟫-order (fault r) g h o = refl

-- ---- the call of a list

module _ (rigid : ℕ) (wish : Vec2) (limit : Float) (xs : List Float) where
  abbrev judged : Fault
  judged = wish_fault wish limit ⊳ lines_fault (lines_of xs)

  -- the count is judged first
  pub counted-first : list_call rigid wish limit xs ≡ (count_fault xs ⟫ (judged ⟫ whole_list rigid wish limit (lines_of xs)))
  unfolding list_call judged_list count_fault
  counted-first = ⟫-order (fours xs) (few (lines_of xs)) judged _

  -- what is admitted is called alike
  pub called-admitted : wish_fault wish limit ≡ fine → lines_fault (lines_of xs) ≡ fine →
      list_call rigid wish limit xs ≡ admitted_call rigid wish limit xs
  unfolding admitted_call
  called-admitted w l = rw (counted-first, w, l)

-- a count that passes is one of whole lines, and not of too many
pub few-counted : (xs : List Float) → count_fault xs ≡ fine → length xs / 4 ≤ most_lines
unfolding count_fault
few-counted xs e =
    let many = length (lines_of xs) in
    rw (lines_long xs) at (leb-true many most_lines (must-fine (leb many most_lines) 4 (⊳-fine (fours xs) e).1))
