-- The calls that a session takes one after the other, and what stands after them, told without any session (02, T-12; a change,
-- docs/changes/change.md). Definitions only. Assumes nothing.
use Rattle.std.specs.Prelude.{ℕ, ◌+◌, ◌≤◌, ◌<◌, List, [], ◌∷◌, ◌++◌, length}
use Rattle.lines.specs.declared.Line.{Line}
use Rattle.lines.specs.declared.Origin.{Origin}
use Rattle.lines.specs.Lines.{most_lines, lines_of}
use Rattle.session.specs.declared.Session.{Session}
use Rattle.session.specs.Calls.{Fed}
use Rattle.session.specs.Withdrawals.{without, without_all, lowered, withdrawn_as}
use Rattle.session.specs.Changes.{lowered_by, changed_as}
use Rattle.histories.specs.Cuts.{Batch, fed_by, Admitted, arriving}

pub data Operation : Type 0 where
  batch : Batch → Operation
  withdrawal : ℕ → Operation
  change : List ℕ → Batch → Operation

abbrev pub changed_by : Session → List ℕ → Batch → Fed
changed_by s is b = changed_as s is b.numbers b.brought

abbrev pub done_by : Session → Operation → Fed
done_by s (batch b) = fed_by s b
done_by s (withdrawal i) = withdrawn_as s i
done_by s (change is b) = changed_by s is b

-- the session after each of a list of operations, one after the other
abbrev pub done_all : Session → List Operation → Session
done_all s [] = s
done_all s (o ∷ os) = done_all (done_by s o).session os

-- the lines that stand, in their order, the origin of each, and the rigid count
pub record Standing : Type 0 where
  pub lines : List Line
  pub origins : List Origin
  pub rigid : ℕ

abbrev pub nothing_yet : ℕ → Standing
nothing_yet rigid = record { lines = []; origins = []; rigid = rigid }

-- a batch comes behind the lines, each with the origin that it arrived with; a withdrawal takes one out: "Later lines move
-- down one", and "the rigid count is one less if the index was below it"; a change takes several out, by their indices as the
-- lines stand, the rigid count is one less for each index below it, and the batch comes behind what is left
abbrev pub standing_after : Standing → Operation → Standing
standing_after g (batch b) = record {
  lines = g.lines ++ lines_of b.numbers;
  origins = g.origins ++ arriving b;
  rigid = g.rigid;
}
standing_after g (withdrawal i) = record {
  lines = without i g.lines;
  origins = without i g.origins;
  rigid = lowered i g.rigid;
}
standing_after g (change is b) =
    record {
      lines = without_all is g.lines ++ lines_of b.numbers;
      origins = without_all is g.origins ++ arriving b;
      rigid = lowered_by is g.rigid;
    }

abbrev pub standing_after_all : Standing → List Operation → Standing
standing_after_all g [] = g
standing_after_all g (o ∷ os) = standing_after_all (standing_after g o) os

-- strictly ascending from `low` on, and below the count
pub data Ascending (count : ℕ) : ℕ → List ℕ → Type 0 where
  ascended : {low : ℕ} → Ascending count low []
  ascends : {low i : ℕ} {is : List ℕ} → low ≤ i → i < count → Ascending count (i + 1) is → Ascending count low (i ∷ is)

-- a batch of whole admitted lines that fits the lines then standing; an index below their count; ascending indices
-- below it, and a batch that fits what they leave
pub data Fits : Standing → Operation → Type 0 where
  batch-fits : {g : Standing} {b : Batch} → Admitted b →
      length g.lines + length (lines_of b.numbers) ≤ most_lines → Fits g (batch b)
  index_below : {g : Standing} {i : ℕ} → i < length g.lines → Fits g (withdrawal i)
  change-fits : {g : Standing} {is : List ℕ} {b : Batch} → Ascending (length g.lines) 0 is → Admitted b →
      length (without_all is g.lines) + length (lines_of b.numbers) ≤ most_lines → Fits g (change is b)

-- each at its time
pub data AllFit : Standing → List Operation → Type 0 where
  no_more : {g : Standing} → AllFit g []
  and_then : {g : Standing} {o : Operation} {os : List Operation} → Fits g o → AllFit (standing_after g o) os →
      AllFit g (o ∷ os)

-- a history of batches alone
abbrev pub batches : List Batch → List Operation
batches [] = []
batches (b ∷ bs) = batch b ∷ batches bs

-- the withdrawals of ascending indices one by one, from the highest down, so that none has moved when its turn comes
abbrev pub downward : List ℕ → List Operation
downward [] = []
downward (i ∷ is) = downward is ++ (withdrawal i ∷ [])
