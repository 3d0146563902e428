-- Laws of one record answered: what the reader's and the writer's promises say of it, and of its reply's bytes. Assumes nothing.
use Prim.Native.Nat.{ℕ, zero, suc, ◌≤◌, ◌<◌}
use Rattle.std.specs.Prelude.{Result, Ok, Err}
use native.Mathlib.Omega.{arith}
use mathlib.Core.Path.{◌≡◌, refl, sym, ap, ◌∙◌}
use mathlib.Core.Bool.{Bool, true, false}
use mathlib.Core.List.{List}
use lib.Dec.{leb}
use lib.ListN.{length}
use borrow.Author.Tests.{le-leb, lt-leb, leb-true}
use Rattle.arithmetic.specs.Binary32.{when◌then◌else◌}
use Rattle.arithmetic.proofs.Choice.{if-all}
use Rattle.admission.specs.declared.refusal.Refusal.{Refusal}
use Rattle.admission.specs.declared.refusal.Refusal.TheVariants as code
use Rattle.admission.specs.Refusals.{number_of}
use Rattle.admission.specs.Faults.{Fault, fine, fault}
use Rattle.admission.proofs.FaultLaws.{no-fault}
use Rattle.linear_programming.specs.Read.{failed_of}
use Rattle.lines.specs.declared.Origin.{Origin}
use Rattle.linear_programming.proofs.Agreement.{failed-there}
use Rattle.dodgy_2d.specs.declared.Scene.{Scene}
use Rattle.dodgy_2d.specs.Scenes.{scene_fault}
use Rattle.dodgy_2d.specs.Outcomes.{SceneOutcome, outcome, refused_scene, scene_outcome}
use Rattle.dodgy_2d.proofs.SceneTold.{Told, answered as answered-outcome, at-fault, by-edge, by-edge-at-rest, scene-told}
use Rattle.records.proofs.RefusalLaws.{NumberedReading, numbered-back, refused-numbered, scene-numbered}
use Rattle.dodgy_2d.specs.Origins.{scene_origin}
use Rattle.dodgy_2d.specs.Read.{ToldAnswer, code_of, code_as, outcome_of, scene_answer_as}
use Rattle.dodgy_2d.specs.Admitted.{admitted_answer}
use Rattle.dodgy_2d.proofs.ScenePasses.{admitted-alike}
use Rattle.fields.specs.Bytes.{big_endian}
use Rattle.fields.specs.Got.{Got, refused, got}
use Rattle.scene_records.specs.declared.NumberedScene.{NumberedScene}
use Rattle.scene_records.specs.Versions.{Numbered, scene_in, numbered_as}
use Rattle.scene_records.proofs.ReadAdmitted.{read-admitted}
use Rattle.answer_records.specs.Answers.{longest_answer, answer_bytes, refusal_bytes, Written, written, laid}
use Rattle.answer_records.proofs.WrittenLaws.{laid-there}
use Rattle.records.specs.Answered.{Answered, answer, refusal, answer_of, of_outcome, of_reading, answered, laid_answer, answer_to, Solved, solved, solved_in, scene_answer, scene_answer_to, reading_outcome, record_outcome, reply_bytes, reply_to}
use Rattle.records.specs.Steps.{put, put_at}

-- ---- the reader's promise

read-refused : (g : Got Numbered) (r : Refusal) → Err r ≡ numbered_as g → Err r ≡ solved_in g
read-refused (refused m) r e = cc
read-refused (got s at) r e = cc

-- a scene that was read has no fault, and is answered alike where it is not judged again
read-solved : (bytes : List ℕ) (g : Got Numbered) → scene_in bytes ≡ g → (r : NumberedScene) → Ok r ≡ numbered_as g →
    length r.scene.lines ≡ 256 → admitted_answer r.scene ≡ solved_in g
read-solved bytes (refused m) k r e long = absurd (cc)
read-solved bytes (got x at) k r e long =
    let whole : r ≡ record { scene = x.scene; numbers = x.numbers } = cc in
    let same : r.scene ≡ x.scene = ap (λ (y : NumberedScene). y.scene) whole in
    rw same (admitted-alike x.scene (rw same at long) (read-admitted bytes x at k))

-- what is said of a scene without a fault is its outcome
code-there : (n : ℕ) → 1 ≤ n → n ≤ 5 → code_of (code_as n) ≡ n
unfolding when◌then◌else◌
code-there zero low high = absurd (omega arith)
code-there (suc zero) low high = refl
code-there (suc (suc zero)) low high = refl
code-there (suc (suc (suc zero))) low high = refl
code-there (suc (suc (suc (suc zero)))) low high = refl
code-there (suc (suc (suc (suc (suc zero))))) low high = refl
code-there (suc (suc (suc (suc (suc (suc n)))))) low high = absurd (omega arith)

outcome-told : (c : Scene) → scene_fault c ≡ fine → (o : SceneOutcome) → Told c o → (from : Origin) →
    outcome_of (scene_answer_as o from) ≡ o
outcome-told c f (outcome code p l n) (answered-outcome h) from = rw (code-there code h.0 h.1, failed-there l)
outcome-told c f (refused_scene m) (at-fault g) from = absurd (no-fault m (sym f ∙ g))
outcome-told c f (refused_scene m) (by-edge nine g h) from = rw (nine, numbered-back 9 refl)
outcome-told c f (refused_scene m) (by-edge-at-rest nine g h) from = rw (nine, numbered-back 9 refl)

-- the answer says what the reading says, in its own number
reading-told : (bytes : List ℕ) (g : Got Numbered) → scene_in bytes ≡ g → NumberedReading g →
    outcome_of (solved_in g) ≡ reading_outcome g
reading-told bytes (refused r) z h = rw (numbered-back r (refused-numbered h))
reading-told bytes (got x at) z h =
    outcome-told x.scene (read-admitted bytes x at z) (scene_outcome x.scene) (scene-told x.scene) (scene_origin x.scene)

told-read : (bytes : List ℕ) → outcome_of (solved_in (scene_in bytes)) ≡ reading_outcome (scene_in bytes)
told-read bytes = reading-told bytes (scene_in bytes) refl (scene-numbered bytes)

-- what is written of a reading is its outcome
as-read : (g : Got Numbered) → of_reading g ≡ of_outcome (reading_outcome g)
as-read (refused r) = refl
as-read (got x at) = refl

outcome-read : (bytes : List ℕ) → of_reading (scene_in bytes) ≡ of_outcome (outcome_of (solved_in (scene_in bytes)))
outcome-read bytes = as-read (scene_in bytes) ∙ ap of_outcome (sym (told-read bytes))

-- ---- the first fault

module _ (bytes buffer : List ℕ) where
  pub some-room : longest_answer ≤ length buffer → answer_to bytes buffer ≡ laid_answer (answered bytes) buffer
  unfolding answer_to when◌then◌else◌
  some-room h = rw (le-leb longest_answer (length buffer) h)

  pub no-room-solved : length buffer < longest_answer → solved (Err code.NoRoom) buffer ≡ scene_answer_to bytes buffer
  unfolding answer_to scene_answer when◌then◌else◌
  no-room-solved h = rw (lt-leb longest_answer (length buffer) h)

  room-solved : longest_answer ≤ length buffer → (a : Result ToldAnswer Refusal) → a ≡ solved_in (scene_in bytes) → (l : List ℕ) →
      l ≡ (laid_answer (of_outcome (outcome_of a)) buffer).contents → solved a l ≡ scene_answer_to bytes buffer
  unfolding answer_to answered scene_answer when◌then◌else◌
  room-solved h a e l f = rw (le-leb longest_answer (length buffer) h, outcome-read bytes, ← e, f)

  module _ (h : longest_answer ≤ length buffer) where
    pub refused-solved : (r : Refusal) → Err r ≡ numbered_as (scene_in bytes) →
        solved (Err r) buffer ≡ scene_answer_to bytes buffer
    refused-solved r read = room-solved h (Err r) (read-refused (scene_in bytes) r read) buffer refl

    pub outcome-solved : (r : NumberedScene) → Ok r ≡ numbered_as (scene_in bytes) → length r.scene.lines ≡ 256 →
        (a : Result ToldAnswer Refusal) → a ≡ admitted_answer r.scene → (l : List ℕ) →
        l ≡ (laid_answer (of_outcome (outcome_of a)) buffer).contents → solved a l ≡ scene_answer_to bytes buffer
    outcome-solved r read long a e l f = room-solved h a (e ∙ read-solved bytes (scene_in bytes) refl r read long) l f

-- ---- the answer in 01's own numbers

module _ (bytes buffer : List ℕ) where
  outcome-by-room : (b : Bool) → leb longest_answer (length buffer) ≡ b → outcome_of (scene_answer bytes buffer)
      ≡ record_outcome bytes buffer
  unfolding scene_answer record_outcome when◌then◌else◌
  outcome-by-room true e = rw e (told-read bytes)
  outcome-by-room false e = rw e

  pub solved-told : {a : Result ToldAnswer Refusal} {l : List ℕ} → solved a l ≡ scene_answer_to bytes buffer →
      outcome_of a ≡ record_outcome bytes buffer
  solved-told e = ap (λ (s : Solved). outcome_of s.told) e ∙ outcome-by-room (leb longest_answer (length buffer)) refl

-- ---- the answer with its failure forgotten

abbrev pub fault_in : Result ToldAnswer Refusal → Fault
fault_in (Ok a) = fine
fault_in (Err r) = fault (number_of r)

laid-told : (a : Result ToldAnswer Refusal) (buffer : List ℕ) → longest_answer ≤ length buffer →
    (laid_answer (of_outcome (outcome_of a)) buffer).told ≡ fault_in a
unfolding answer_bytes big_endian
laid-told (Ok a) buffer h =
    ap (λ (w : Written). w.told)
    (laid-there (answer_bytes (answer_of (code_of a.outcome) a.velocity (failed_of a.failed) a.probes)) buffer h)
laid-told (Err r) buffer h = refl

module _ (bytes buffer : List ℕ) where
  told-by-room : (b : Bool) → leb longest_answer (length buffer) ≡ b → (answer_to bytes buffer).told
      ≡ fault_in (scene_answer bytes buffer)
  unfolding answer_to answered scene_answer when◌then◌else◌
  told-by-room true e = rw (e, outcome-read bytes) (laid-told (solved_in (scene_in bytes)) buffer
      (leb-true longest_answer (length buffer) e))
  told-by-room false e = rw e

  faults-told : (answer_to bytes buffer).told ≡ fault_in (scene_answer bytes buffer)
  faults-told = told-by-room (leb longest_answer (length buffer)) refl

  pub forgotten : (a : Result ToldAnswer Refusal) (l : List ℕ) → solved a l ≡ scene_answer_to bytes buffer → written (fault_in a) l
      ≡ answer_to bytes buffer
  forgotten a l e =
      ap (λ (s : Solved). written (fault_in s.told) s.contents) e
      ∙ ap (λ (f : Fault). written f (answer_to bytes buffer).contents) (sym faults-told)

-- ---- the reply's bytes

laid-outcome : (a : Answered) (out l : List ℕ) → longest_answer ≤ length out → written fine l ≡ laid_answer a out →
    put longest_answer l ≡ put_at 0 (reply_bytes a) out
unfolding answer_bytes big_endian
laid-outcome (answer a) out l h e = ap (λ (w : Written). put longest_answer w.contents) (e ∙ laid-there (answer_bytes a) out h)
laid-outcome (refusal r) out l h e = absurd (no-fault r (ap (λ (w : Written). w.told) e))

laid-refusal : (a : Answered) (n : ℕ) (f : Fault) (out l m : List ℕ) → longest_answer ≤ length out → written (fault n) l
    ≡ laid_answer a out → written f m ≡ laid (refusal_bytes n) l → put 4 m ≡ put_at 0 (reply_bytes a) out
unfolding answer_bytes refusal_bytes big_endian
laid-refusal (answer a) n f out l m h e w =
    absurd (no-fault n (sym (ap (λ (x : Written). x.told) (e ∙ laid-there (answer_bytes a) out h))))
laid-refusal (refusal r) n f out l m h e w =
    let number : n ≡ r = (let z : ◌≡◌ {A = Fault} (fault n) (fault r) = ap (λ (x : Written). x.told) e in cc) in
    let same : l ≡ out = ap (λ (x : Written). x.contents) e in
    let room : 4 ≤ length l = rw same (omega arith) in
    rw (← number, ← same) (ap (λ (x : Written). put 4 x.contents) (w ∙ laid-there (refusal_bytes n) l room))

module _ (bytes out l : List ℕ) (h : longest_answer ≤ length out) where
  pub replied : written fine l ≡ answer_to bytes out → put longest_answer l ≡ put_at 0 (reply_to bytes) out
  unfolding reply_to
  replied e = laid-outcome (answered bytes) out l h (e ∙ some-room bytes out h)

  pub replied-refusal : (n : ℕ) (f : Fault) (m : List ℕ) → written (fault n) l ≡ answer_to bytes out →
      written f m ≡ laid (refusal_bytes n) l → put 4 m ≡ put_at 0 (reply_to bytes) out
  unfolding reply_to
  replied-refusal n f m e w = laid-refusal (answered bytes) n f out l m h (e ∙ some-room bytes out h) w

-- ---- a refusal leaves the buffer alone

record Untouched (buffer : List ℕ) (w : Written) : Type 0 where
  pub stays : (n : ℕ) → w.told ≡ fault n → w.contents ≡ buffer

told-untouched : (r : ℕ) (buffer : List ℕ) → Untouched buffer (written (fault r) buffer)
told-untouched r buffer = record { stays = λ n e. refl }

answer-untouched : (a : Answered) (buffer : List ℕ) → Untouched buffer (laid_answer a buffer)
unfolding laid
answer-untouched (answer a) buffer =
    if-all (Untouched buffer) (leb (length (answer_bytes a)) (length buffer))
    (record { stays = λ n e. absurd (no-fault n e) })
    (told-untouched 10 buffer)
answer-untouched (refusal r) buffer = told-untouched r buffer

answered-untouched : (bytes buffer : List ℕ) → Untouched buffer (answer_to bytes buffer)
unfolding answer_to
answered-untouched bytes buffer = if-all (Untouched buffer) (leb longest_answer (length buffer))
    (answer-untouched (answered bytes) buffer) (told-untouched 10 buffer)

-- Where a record is refused, the buffer holds what it held.
pub refused-untouched : (bytes buffer : List ℕ) (n : ℕ) → (answer_to bytes buffer).told ≡ fault n →
    (answer_to bytes buffer).contents ≡ buffer
refused-untouched bytes buffer n e = (answered-untouched bytes buffer).stays n e

-- So it does where the answer with its failure is a refusal.
pub refused-scene-untouched : (bytes buffer : List ℕ) (r : Refusal) → scene_answer bytes buffer ≡ Err r →
    (scene_answer_to bytes buffer).contents ≡ buffer
refused-scene-untouched bytes buffer r e = refused-untouched bytes buffer (number_of r) (faults-told bytes buffer ∙ ap fault_in e)
