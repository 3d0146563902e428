-- Demand 3 without withdrawals: an admitted list that fits, cut into batches anywhere (`admitted-cut`), and any list
-- that the single call does not refuse (`cut-anywhere`). Such batches fit, and what stands after them is the list.
-- Assumes nothing.
use Prim.Native.Nat.{ℕ, ◌+◌, ◌%◌, ◌≤◌}
use mathlib.Core.Path.{◌≡◌, refl, sym, ◌∙◌}
use mathlib.Core.List.{List, [], ◌++◌, append_assoc, append-nil}
use native.Mathlib.Omega.{arith}
use lib.Dec.{leb}
use lib.ListN.{length, length-append}
use lib.Ieee.{Float}
use borrow.Author.Tests.{leb-true}
use Rattle.common.specs.declared.Vec2.{Vec2}
use Rattle.lines.specs.Lines.{most_lines, lines_of}
use Rattle.lines.specs.LineFaults.{lines_fault}
use Rattle.linear_programming.specs.Whole.{Phase, Failed, stands}
use Rattle.admission.specs.Faults.{fine, must, ◌⊳◌}
use Rattle.linear_programming.specs.Admit.{fours, wish_fault, judged_list, list_call}
use Rattle.admission.proofs.FaultLaws.{⊳-fine, must-fine}
use Rattle.lines.proofs.JudgeLaws.{faults-append}
use Rattle.linear_programming.proofs.JudgeLaws.{⟫-stands}
use Rattle.lines.proofs.Rows.{lines-append}
use Rattle.histories.specs.Cuts.{Batch, Admitted, WholeLines, none, more, joined, arriving, arrived}
use Rattle.histories.specs.Histories.{Standing, nothing_yet, standing_after, standing_after_all, batch, batch-fits, AllFit, no_more, and_then, batches}
use Rattle.histories.specs.Demand3.{CutStands}
use Rattle.histories.proofs.StandLaws.{stands-judged, called, start-over}
use Rattle.histories.proofs.HistoryLaws.{last-over, history-stands}

no_lines : lines_of [] ≡ []
unfolding lines_of
no_lines = refl

-- what stands after batches of whole lines
cut-leaves : (g : Standing) {bs : List Batch} → WholeLines bs →
    standing_after_all g (batches bs) ≡ record {
      lines = g.lines ++ lines_of (joined bs);
      origins = g.origins ++ arrived bs;
      rigid = g.rigid;
    }
cut-leaves g none = rw (no_lines, append-nil g.lines, append-nil g.origins)
cut-leaves g (more {b} {bs} four theirs ws) =
    cut-leaves (record { lines = g.lines ++ lines_of b.numbers; origins = g.origins ++ arriving b; rigid = g.rigid }) ws
    ∙ rw (
      lines-append b.numbers (joined bs) four,
      append_assoc g.lines (lines_of b.numbers)
          (lines_of (joined bs)),
      append_assoc g.origins (arriving b) (arrived bs),
    )

-- batches of an admitted list that fits fit one after the other
cut_fits : (g : Standing) {bs : List Batch} → WholeLines bs → lines_fault (lines_of (joined bs)) ≡ fine →
    length g.lines + length (lines_of (joined bs)) ≤ most_lines →
    AllFit g (batches bs)
cut_fits g none l room = no_more
cut_fits g (more {b} {bs} four theirs ws) l room =
    let xs = b.numbers in
    let parts : lines_of (xs ++ joined bs) ≡ lines_of xs ++ lines_of (joined bs) = lines-append xs (joined bs) four in
    let faults = ⊳-fine (lines_fault (lines_of xs)) (rw (parts, faults-append) at l) in
    let sizes : length (lines_of (xs ++ joined bs)) ≡ length (lines_of xs) + length (lines_of (joined bs)) =
    rw (parts, length-append) refl in
    let longer = length-append g.lines (lines_of xs) in
    let admitted : Admitted b = record { four = four; theirs = theirs; lines = faults.0 } in
    and_then (batch-fits {g = g} {b = b} admitted (omega arith)) (cut_fits (standing_after g (batch b)) ws faults.1 (omega arith))

joined-whole : {bs : List Batch} → WholeLines bs → length (joined bs) % 4 ≡ 0
joined-whole none = refl
joined-whole (more {b} {bs} four theirs ws) =
    let rest = joined-whole ws in
    omega (arith, length-append b.numbers (joined bs))

module _ (rigid : ℕ) (wish : Vec2) (limit : Float) where
  -- for an admitted wish and limit and admitted lines that fit, with no premise about the single call
  pub admitted-cut : (bs : List Batch) → WholeLines bs → wish_fault wish limit ≡ fine →
      lines_fault (lines_of (joined bs)) ≡ fine → length (lines_of (joined bs)) ≤ most_lines → CutStands rigid wish limit bs
  admitted-cut bs ws w l few =
      let fit = cut_fits (nothing_yet rigid) ws l (omega arith) in
      let after = rw (cut-leaves (nothing_yet rigid) ws) at (last-over wish limit {g =
      nothing_yet rigid} (start-over rigid wish limit w) fit) in
      record {
        history = history-stands wish limit rigid (batches bs) w fit;
        last = stands-judged after ∙ sym (called rigid wish limit (joined bs) (joined-whole ws));
        kept = after.origins-are;
      }

  -- where the single call over all lines is not refused
  pub cut-anywhere : (bs : List Batch) → WholeLines bs → {ph : Phase} {f : Failed} {n : ℕ} →
      list_call rigid wish limit (joined bs) ≡ stands ph f n → CutStands rigid wish limit bs
  unfolding list_call judged_list
  cut-anywhere bs ws e =
      let all = lines_of (joined bs) in
      let told = ⟫-stands (fours (joined bs)) e in
      let passed = ⟫-stands (must (leb (length all) most_lines) 4 ⊳ wish_fault wish limit ⊳ lines_fault all) told.1 in
      let few = ⊳-fine (must (leb (length all) most_lines) 4) passed.0 in
      let faults = ⊳-fine (wish_fault wish limit) few.1 in
      admitted-cut bs ws faults.0 faults.1
      (leb-true (length all) most_lines (must-fine (leb (length all) most_lines) 4 few.0))
