-- A session in four arrays of a caller's: which session they say, and how one is laid out in them. Definitions only.
-- Assumes nothing.
use Rattle.std.specs.Prelude.{ℕ, ⊤, Result, Ok, Err, Option, ◌%◌, ◌^◌, List, [], ◌∷◌, get_or, Float}
use Rattle.std.specs.Float.{nan}
use Rattle.arithmetic.specs.Binary32.{0ᶠ}
use Rattle.admission.specs.Faults.{Fault, fine, fault}
use Rattle.common.specs.declared.Vec2.{Vec2}
use Rattle.common.specs.Vectors.{vec}
use Rattle.lines.specs.Lines.{lines_of, numbers_of}
use Rattle.lines.specs.Origins.{origins_of}
use Rattle.linear_programming.specs.declared.Phase.{Phase}
use Rattle.linear_programming.specs.declared.Phase.TheVariants as phase
use Rattle.pass_2d.specs.declared.Failure.{Failure}
use Rattle.plain_numbers.specs.Kinds.{phase_kind, phase_index, phase_in, failed_kind, failed_index, failed_cause, failed_in}
use Rattle.session.specs.declared.Session.{Session}
use Rattle.session.specs.Calls.{Fed}
use Rattle.session.specs.Withdrawals.{threes_of}

-- ---- the four arrays

-- 256 lines, four numbers each; 256 origins, three numbers each; wish, limit, point and penetration; line count, rigid
-- count, phase and the index of a rigid failure, cause and index of the failed line, the earlier line that the cause
-- names, probes
pub record Block : Type 0 where
  pub lines : List Float
  pub origins : List ℕ
  pub numbers : List Float
  pub words : List ℕ

abbrev pub block : List Float → List ℕ → List Float → List ℕ → Block
block l o x w = record { lines = l; origins = o; numbers = x; words = w }

-- the session that they say, whatever they hold: probes are a number of four bytes
unfoldable pub session_in : Block → Session
session_in b = record {
  lines = lines_of b.lines;
  origins = origins_of b.origins;
  count = get_or b.words 0 0;
  rigid = get_or b.words 1 0;
  wish = vec (get_or b.numbers 0 nan) (get_or b.numbers 1 nan);
  limit = get_or b.numbers 2 nan;
  phase = phase_in (get_or b.words 2 0) (get_or b.words 3 0) (get_or b.numbers 3 nan) (get_or b.numbers 4 nan)
      (get_or b.numbers 5 nan);
  failed = failed_in (get_or b.words 4 0) (get_or b.words 5 0) (get_or b.words 6 0);
  probes = get_or b.words 7 0 % 2 ^ 32;
}

abbrev pub numbers_in : Vec2 → Float → Phase → List Float
numbers_in w l (phase.Solving p) = w.x ∷ w.y ∷ l ∷ p.x ∷ p.y ∷ 0ᶠ ∷ []
numbers_in w l (phase.Relaxing p depth) = w.x ∷ w.y ∷ l ∷ p.x ∷ p.y ∷ depth ∷ []
numbers_in w l (phase.RigidFailure k p) = w.x ∷ w.y ∷ l ∷ p.x ∷ p.y ∷ 0ᶠ ∷ []

abbrev pub words_in : ℕ → ℕ → Phase → Option Failure → ℕ → List ℕ
words_in count rigid p f n = count ∷ rigid ∷ phase_kind p ∷ phase_index p ∷ failed_kind f ∷ failed_index f ∷ failed_cause f ∷ n ∷ []

-- a session laid out
unfoldable pub block_of : Session → Block
block_of s =
    block (numbers_of s.lines) (threes_of s.origins) (numbers_in s.wish s.limit s.phase)
    (words_in s.count s.rigid s.phase s.failed s.probes)

-- ---- what a call leaves

-- the number that it tells, 0 for none, and what the arrays hold then
pub record Left : Type 0 where
  pub told : ℕ
  pub holds : Block

abbrev pub left : ℕ → Block → Left
left n b = record { told = n; holds = b }

-- the number that the call tells: 0 where nothing is refused
abbrev pub told_by : Fault → ℕ
told_by fine = 0
told_by (fault n) = n

-- the session that the call handed back; or, behind a refusal, what they held
abbrev pub held_by : Fault → Session → Block → Block
held_by fine s b = block_of s
held_by (fault n) s b = b

-- what an answer by a number says, any number, and the session that the call left
abbrev pub fault_in : Result ⊤ ℕ → Fault
fault_in (Ok _) = fine
fault_in (Err n) = fault n

abbrev pub fed_in : Result ⊤ ℕ → Session → Fed
fed_in r s = record { judged = fault_in r; session = s }

-- the number that the call tells, and what the arrays hold
unfoldable pub left_by : Fed → Block → Left
left_by r b = left (told_by r.judged) (held_by r.judged r.session b)
