-- Lines that do not matter (02, T-13): what a batch of strictly met lines leaves, what one that changes more has, and lines taken
-- back in any order. Definitions only. Assumes nothing.
use Rattle.std.specs.Prelude.{ℕ, suc, ◌+◌, ◌≤◌, ◌<◌, ◌≡◌, true, false, List, [], ◌∷◌, length, take, get_or}
use Rattle.arithmetic.proofs.Lists.{All}
use Rattle.common.specs.declared.Vec2.{Vec2}
use Rattle.lines.specs.declared.Line.{Line}
use Rattle.lines.specs.Lines.{lines_of, off_line}
use Rattle.admission.specs.Faults.{fine}
use Rattle.session.specs.declared.Session.{Session}
use Rattle.session.specs.Calls.{At}
use Rattle.session.specs.Sessions.{lines_in, origins_in}
use Rattle.session.specs.Meeting.{is_met, unmet_as}
use Rattle.session.specs.Withdrawals.{lowered}
use Rattle.histories.specs.Cuts.{Batch, fed_by}
use Rattle.histories.specs.Histories.{Operation, batch, withdrawal, done_all, Standing, standing_after}
use Rattle.histories.specs.Demand3.{EachStands}

-- strictly met by the point
abbrev pub Met : Vec2 → Line → Type 0
Met p l = is_met p l ≡ true

-- "leaves phase and point bit for bit the same and adds exactly one probe a line": a phase has its point; the batch is
-- taken, and the failed line stays, too
pub record Unchanged (s : Session) (b : Batch) : Type 0 where
  pub taken : (fed_by s b).judged ≡ fine
  pub phase-stays : (fed_by s b).session.phase ≡ s.phase
  pub failed-stays : (fed_by s b).session.failed ≡ s.failed
  pub one_each : (fed_by s b).session.probes ≡ s.probes + length (lines_of b.numbers)

-- "it has a line that the point at its arrival did not strictly meet, and the session can name the first"
pub record NamesFirst (s : Session) (p : Vec2) (b : Batch) : Type 0 where
  pub place : ℕ
  pub inside : place < length (lines_of b.numbers)
  pub told : unmet_as s b.numbers ≡ At (s.count + place)
  pub before-met : All (Met p) (take place (lines_of b.numbers))
  pub not-met : is_met p (get_or (lines_of b.numbers) place off_line) ≡ false

-- ---- taken back

-- n lines behind the first `count`, each taken back once, "in any order": each index is at its time one of those still there
pub data TakenBack (count : ℕ) : ℕ → List ℕ → Type 0 where
  all_back : TakenBack count 0 []
  one-back : {n i : ℕ} {is : List ℕ} → count ≤ i → i < count + suc n → TakenBack count n is → TakenBack count (suc n) (i ∷ is)

abbrev pub withdrawals : List ℕ → List Operation
withdrawals [] = []
withdrawals (i ∷ is) = withdrawal i ∷ withdrawals is

-- "lower by one for each withdrawal at an index then below it"
abbrev pub lowered_all : List ℕ → ℕ → ℕ
lowered_all [] rigid = rigid
lowered_all (i ∷ is) rigid = lowered_all is (lowered i rigid)

-- the session in all but the rigid count
abbrev pub with_rigid : Session → ℕ → Session
with_rigid s rigid = record {
  lines = s.lines;
  origins = s.origins;
  count = s.count;
  rigid = rigid;
  wish = s.wish;
  limit = s.limit;
  phase = s.phase;
  failed = s.failed;
  probes = s.probes;
}

-- what stands in a session
abbrev pub standing_in : Session → Standing
standing_in s = record { lines = lines_in s; origins = origins_in s; rigid = s.rigid }

-- "Withdrawing all those .. lines next .. is not refused and brings back the earlier session in all but the rigid count"
pub record BroughtBack (s : Session) (b : Batch) (is : List ℕ) : Type 0 where
  pub each : EachStands s.wish s.limit (standing_after (standing_in s) (batch b)) (fed_by s b).session (withdrawals is)
  pub earlier : done_all (fed_by s b).session (withdrawals is) ≡ with_rigid s (lowered_all is s.rigid)
