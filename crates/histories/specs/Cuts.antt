-- A list of lines cut into consecutive batches, with origins or without (demand 3; 02, T-06). Definitions only. Assumes nothing.
use Rattle.std.specs.Prelude.{ℕ, ◌%◌, ◌≡◌, List, [], ◌∷◌, ◌++◌, length, Float}
use Rattle.admission.specs.Faults.{fine}
use Rattle.lines.specs.declared.Origin.{Origin}
use Rattle.lines.specs.Lines.{lines_of}
use Rattle.lines.specs.LineFaults.{lines_fault}
use Rattle.session.specs.declared.Session.{Session}
use Rattle.session.specs.Calls.{Fed}
use Rattle.session.specs.Batches.{origins_for, origins_fault, fed_with}

-- the numbers of a batch's lines, and the origins that it brings
pub record Batch : Type 0 where
  pub numbers : List Float
  pub brought : List ℕ

abbrev pub fed_by : Session → Batch → Fed
fed_by s b = fed_with s b.numbers b.brought

-- whole lines, admitted, that bring "no origins or three numbers a line"
pub record Admitted (b : Batch) : Type 0 where
  pub four : length b.numbers % 4 ≡ 0
  pub theirs : origins_fault (length (lines_of b.numbers)) b.brought ≡ fine
  pub lines : lines_fault (lines_of b.numbers) ≡ fine

-- each batch is whole lines, or empty, and brings no origins or three numbers a line
pub data WholeLines : List Batch → Type 0 where
  none : WholeLines []
  more : {b : Batch} {bs : List Batch} → length b.numbers % 4 ≡ 0 →
      origins_fault (length (lines_of b.numbers)) b.brought ≡ fine →
      WholeLines bs → WholeLines (b ∷ bs)

-- the numbers of the batches, one behind the other
abbrev pub joined : List Batch → List Float
joined [] = []
joined (b ∷ bs) = b.numbers ++ joined bs

-- the origins that the lines of a batch arrive with, and those of the batches, one behind the other
abbrev pub arriving : Batch → List Origin
arriving b = origins_for (length (lines_of b.numbers)) b.brought

abbrev pub arrived : List Batch → List Origin
arrived [] = []
arrived (b ∷ bs) = arriving b ++ arrived bs
