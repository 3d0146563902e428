-- Withdrawals from small sessions: 01's cases P5, P7 and P9 with a line taken back. antt computes each row by the
-- definitions that the contracts of `start`, `batch` and `withdraw` cite. Assumes nothing.
use Prim.Native.Nat.{ℕ}
use mathlib.Core.Path.{◌≡◌, refl}
use mathlib.Core.List.{List, [], ◌∷◌, map}
use Rattle.common.specs.declared.Vec2.{Vec2}
use Rattle.common.specs.Vectors.{vec}
use Rattle.lines.specs.declared.Line.{Line}
use Rattle.lines.specs.declared.Origin.{Origin}
use Rattle.lines.specs.Lines.{line, lines_of, numbers_of}
use Rattle.lines.specs.Origins.{origin, unknown, origins_of}
use Rattle.lines.specs.LineFaults.{line_fault, lines_fault}
use Rattle.admission.specs.Faults.{Fault, fine, fault, within, inside}
use Rattle.one_line.specs.OneLine.{circle}
use Rattle.linear_programming.specs.Whole.{Outcome, stands, solving, rigid_failure, no_line, failed_line}
use Rattle.linear_programming.specs.Admit.{wish_fault, judged_list, list_call}
use Rattle.linear_programming.specs.Resume.{resumed}
use Rattle.linear_programming.proofs.Computed.{computed as solved, +, −}
use Rattle.session.specs.Calls.{Fed}
use Rattle.session.specs.Sessions.{origins_in, outcome_in, blank_lines, blank_origins, blank_session, started_as}
use Rattle.session.specs.Batches.{origins_for, fitting, batch_fault, worked, fed_with}
use Rattle.session.specs.Withdrawals.{started_with, threes_of, without, lowered, withdrawal_fault, withdrawn_as}

-- what is read off a call's answer
pub record Read : Type 0 where
  pub told : Fault
  pub outcome : Outcome
  pub origins : List Origin
  pub rigid : ℕ

abbrev read_off : Fed → Read
read_off r = record {
  told = r.judged;
  outcome = outcome_in r.session;
  origins = origins_in r.session;
  rigid = r.session.rigid;
}

-- a session with this rigid count at wish 0 and limit 2, fed lines at once, and an index taken back
pub record Case : Type 0 where
  pub rigid : ℕ
  pub lines : List Line
  pub brought : List ℕ
  pub index : ℕ
  pub answer : Read

abbrev pub o : Vec2
o = vec (+ 0) (+ 0)

abbrev pub right : Vec2
right = vec (+ 1) (+ 0)

abbrev pub A : Line
A = line (vec (+ 0) (+ 1)) right

abbrev B : Line
B = line (vec (+ 0) (− 1)) (vec (− 1) (+ 0))

abbrev far : Line
far = line (vec (+ 0) (+ 3)) right

abbrev case : ℕ → List Line → List ℕ → ℕ → Fault → Outcome → List Origin → ℕ → Case
case rigid ls os i told outcome origins left =
    record {
      rigid = rigid;
      lines = ls;
      brought = os;
      index = i;
      answer = record { told = told; outcome = outcome; origins = origins; rigid = left };
    }

abbrev pub by_the_rules : Case → Read
by_the_rules c = read_off (withdrawn_as (fed_with (started_as o (+ 2) c.rigid).session (numbers_of c.lines)
    c.brought).session c.index)

abbrev up : Outcome
up = stands (solving (vec (+ 0) (+ 1))) no_line 1

abbrev down : Outcome
down = stands (solving (vec (+ 0) (− 1))) no_line 1

pub table : List Case
table =
    -- P7 without either line: the probes are the fresh ones
    case 0 (A ∷ B ∷ []) [] 0 fine down (unknown ∷ []) 0
    ∷ case 0 (A ∷ B ∷ []) [] 1 fine up (unknown ∷ []) 0
    -- P9: a rigid failure ends
    ∷ case 2 (A ∷ B ∷ []) [] 1 fine up (unknown ∷ []) 1
    ∷ case 2 (A ∷ B ∷ []) [] 0 fine down (unknown ∷ []) 1
    -- P5: the last line goes; an index behind it is refused
    ∷ case 1 (far ∷ []) [] 0 fine (stands (solving o) no_line 0) [] 0
    ∷ case 1 (far ∷ []) [] 1 (fault 15)
    (stands (rigid_failure 0 o) (failed_line (record { index = 0; cause = circle })) 1) (unknown ∷ []) 1
    -- a rigid count above the lines
    ∷ case 9 (A ∷ B ∷ []) [] 1 fine up (unknown ∷ []) 8
    -- an index that is the rigid count
    ∷ case 1 (A ∷ B ∷ []) [] 1 fine up (unknown ∷ []) 1
    -- origins move down with their lines
    ∷ case 0 (A ∷ B ∷ []) (7 ∷ 8 ∷ 9 ∷ 4 ∷ 5 ∷ 6 ∷ []) 0 fine down (origin 4 5 6 ∷ []) 0
    ∷ case 0 (A ∷ B ∷ []) (7 ∷ 8 ∷ 9 ∷ 4 ∷ 5 ∷ 6 ∷ []) 1 fine up (origin 7 8 9 ∷ []) 0
    ∷ []

-- each row's question, answered by the definitions, has the row's answer
pub withdrawal-cases : map by_the_rules table ≡ map (λ (c : Case). c.answer) table
unfolding table solved within inside line_fault list_call judged_list lines_of numbers_of origins_of wish_fault lines_fault
    started_as blank_lines blank_origins blank_session
    origins_for fitting batch_fault worked fed_with resumed started_with threes_of without lowered withdrawal_fault withdrawn_as
withdrawal-cases = refl
