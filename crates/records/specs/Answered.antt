-- One scene record of either version answered, from bytes to bytes (01, "Records (ours)"; 02, T-07). Definitions only.
-- Assumes nothing.
use Rattle.std.specs.Prelude.{ℕ, ◌%◌, ◌^◌, List, leb, length, Float, Result, Err}
use Rattle.std.specs.Float.{binary32}
use Rattle.std.specs.Float.Ieee.{is_nan, to_bits}
use Rattle.arithmetic.specs.Binary32.{when◌then◌else◌}
use Rattle.admission.specs.declared.refusal.Refusal.{Refusal}
use Rattle.admission.specs.Refusals.{refusal_of}
use Rattle.admission.specs.Faults.{fault}
use Rattle.common.specs.declared.Vec2.{Vec2}
use Rattle.linear_programming.specs.Whole.{Failed, no_line, failed_line}
use Rattle.dodgy_2d.specs.Outcomes.{SceneOutcome, outcome, refused_scene, scene_outcome}
use Rattle.dodgy_2d.specs.Origins.{scene_origin}
use Rattle.dodgy_2d.specs.Read.{ToldAnswer, scene_answer_as}
use Rattle.fields.specs.Got.{Got, refused, got}
use Rattle.scene_records.specs.Versions.{Numbered, scene_in}
use Rattle.answer_records.specs.declared.Answer.{Answer}
use Rattle.answer_records.specs.Answers.{longest_answer, no_failed_line, answer_bytes, refusal_bytes, Written, written, laid}

-- what is answered to one record: an outcome, or the number of a refusal
pub data Answered : Type 0 where
  answer : Answer → Answered
  refusal : ℕ → Answered

-- a number's bits, four bytes of them, which an f32 has; a NaN, which no solve hands out, has those of the quiet one
unfoldable pub pattern_of : Float → ℕ
pattern_of x = when is_nan x then 0x7FC0_0000 else to_bits binary32 x % 2 ^ 32

-- "failed line (2 bytes, FFFF for none)"; an index of a list of at most 256 lines is itself
abbrev pub place_in : Failed → ℕ
place_in no_line = no_failed_line
place_in (failed_line f) = f.index % 0x1_0000

abbrev pub answer_of : ℕ → Vec2 → Failed → ℕ → Answer
answer_of code p f n = record { code = code; x = pattern_of p.x; y = pattern_of p.y; failed = place_in f; probes = n }

abbrev pub of_outcome : SceneOutcome → Answered
of_outcome (outcome code p f n) = answer (answer_of code p f n)
of_outcome (refused_scene r) = refusal r

-- the neighbours' numbers are not looked at
abbrev pub of_reading : Got Numbered → Answered
of_reading (refused r) = refusal r
of_reading (got x at) = of_outcome (scene_outcome x.scene)

-- the record is read, then the scene solved
unfoldable pub answered : List ℕ → Answered
answered bytes = of_reading (scene_in bytes)

-- the outcome's record at the buffer's start; a refusal leaves the buffer alone
abbrev pub laid_answer : Answered → List ℕ → Written
laid_answer (answer a) buffer = laid (answer_bytes a) buffer
laid_answer (refusal r) buffer = written (fault r) buffer

-- "Record: 10;" comes first, then the record's own faults, then the scene's
unfoldable pub answer_to : List ℕ → List ℕ → Written
answer_to bytes buffer =
    when leb longest_answer (length buffer) then laid_answer (answered bytes) buffer else written (fault 10) buffer

-- ---- with the failed line's cause and origin, which the record does not say

-- what is told, and what the buffer holds then
pub record Solved : Type 0 where
  pub told : Result ToldAnswer Refusal
  pub contents : List ℕ

abbrev pub solved : Result ToldAnswer Refusal → List ℕ → Solved
solved a l = record { told = a; contents = l }

abbrev pub solved_in : Got Numbered → Result ToldAnswer Refusal
solved_in (refused r) = Err (refusal_of r)
solved_in (got x at) = scene_answer_as (scene_outcome x.scene) (scene_origin x.scene)

unfoldable pub scene_answer : List ℕ → List ℕ → Result ToldAnswer Refusal
scene_answer bytes buffer = when leb longest_answer (length buffer) then solved_in (scene_in bytes) else Err (refusal_of 10)

-- the bytes are those of `answer_to`
abbrev pub scene_answer_to : List ℕ → List ℕ → Solved
scene_answer_to bytes buffer = solved (scene_answer bytes buffer) (answer_to bytes buffer).contents

-- what is told in 01's own numbers: the outcome, beside it the failed line's cause; or the number of a refusal
abbrev pub reading_outcome : Got Numbered → SceneOutcome
reading_outcome (refused r) = refused_scene r
reading_outcome (got x at) = scene_outcome x.scene

unfoldable pub record_outcome : List ℕ → List ℕ → SceneOutcome
record_outcome bytes buffer =
    when leb longest_answer (length buffer) then reading_outcome (scene_in bytes) else refused_scene 10

-- ---- the program's reply

-- "The program writes a refused scene as 00 02 01 and 128 + number."
abbrev pub reply_bytes : Answered → List ℕ
reply_bytes (answer a) = answer_bytes a
reply_bytes (refusal r) = refusal_bytes r

unfoldable pub reply_to : List ℕ → List ℕ
reply_to bytes = reply_bytes (answered bytes)
