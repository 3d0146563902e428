-- Sessions that differ only in origins (02, T-06). Definitions only. Assumes nothing.
use Rattle.std.specs.Prelude.{ℕ, ◌≡◌, List, [], ◌∷◌, length}
use Rattle.admission.specs.Faults.{fine}
use Rattle.lines.specs.declared.Origin.{Origin}
use Rattle.lines.specs.Lines.{lines_of}
use Rattle.session.specs.declared.Session.{Session}
use Rattle.session.specs.Batches.{origins_fault}
use Rattle.histories.specs.Cuts.{Batch}
use Rattle.histories.specs.Histories.{Operation, batch, withdrawal, change}

-- the session with other origins, and all else as it is
abbrev pub labelled : List Origin → Session → Session
labelled os s = record {
  lines = s.lines;
  origins = os;
  count = s.count;
  rigid = s.rigid;
  wish = s.wish;
  limit = s.limit;
  phase = s.phase;
  failed = s.failed;
  probes = s.probes;
}

-- "Two sessions that differ only in origins"
pub data Alike : Session → Session → Type 0 where
  alike : {s : Session} (os : List Origin) → Alike s (labelled os s)

-- no origins, or three numbers a line
abbrev pub Theirs : Batch → Type 0
Theirs b = origins_fault (length (lines_of b.numbers)) b.brought ≡ fine

-- the same calls but for origins: batches of the same lines, withdrawals of the same index, changes of both
pub data SameLines : List Operation → List Operation → Type 0 where
  no_call : SameLines [] []
  batch-each : {b c : Batch} {os ps : List Operation} → b.numbers ≡ c.numbers → Theirs b → Theirs c →
      SameLines os ps → SameLines (batch b ∷ os) (batch c ∷ ps)
  withdrawal-each : {i : ℕ} {os ps : List Operation} → SameLines os ps → SameLines (withdrawal i ∷ os) (withdrawal i ∷ ps)
  change-each : {is : List ℕ} {b c : Batch} {os ps : List Operation} → b.numbers ≡ c.numbers → Theirs b → Theirs c →
      SameLines os ps →
      SameLines (change is b ∷ os) (change is c ∷ ps)
