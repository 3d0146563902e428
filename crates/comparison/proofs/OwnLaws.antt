-- Our own answers can all be read, and so they agree with the scenes that they answer. Assumes nothing.
use Rattle.std.specs.Prelude.{None}
use Prim.Native.Nat.{ℕ, ◌+◌, ◌-◌, ◌≤◌}
use native.Mathlib.Omega.{arith}
use mathlib.Core.Path.{◌≡◌, refl, sym, ap, ◌∙◌}
use mathlib.Core.Bool.{Bool, true, false, ◌&&◌}
use mathlib.Core.List.{List, [], ◌++◌, append_assoc, append-nil}
use lib.Dec.{eqb, leb}
use lib.ListN.{length, take, drop}
use lib.Seq.{take_all, drop_at}
use borrow.Author.Tests.{eq-eqb, le-ltb}
use Rattle.arithmetic.proofs.Choice.{if-all}
use Rattle.fields.specs.Got.{Got, refused, got}
use Rattle.dodgy_2d.specs.Outcomes.{SceneOutcome, outcome, refused_scene, scene_outcome}
use Rattle.scene_records.specs.Versions.{Numbered, scene_in}
use Rattle.answer_records.specs.Answers.{longest_answer, refusal_bytes}
use Rattle.answer_records.specs.Replies as said
use Rattle.answer_records.specs.Replies.{Said, answer_in}
use Rattle.answer_records.proofs.RoundTrips.{refusal-read-back, outcome-size, refusal-size}
use Rattle.answer_logs.specs.Logs as log
use Rattle.answer_logs.specs.Logs.{Entry, found_as, size_in, found_in}
use Rattle.answer_logs.specs.Parts.{waits}
use Rattle.answer_logs.proofs.LogLaws.{found-there}
use Rattle.answer_logs.proofs.CutLaws.{found-append}
use Rattle.records.specs.Answered.{answered, reply_to}
use Rattle.records.specs.Parts.{Part, skipped, overlong, whole, cut_short, part_in}
use Rattle.records.specs.Streams.{unlimited, onward, worked, last_answer, answers_from, answers_to}
use Rattle.records.proofs.PartLaws.{Lies, skips, names, holds, none, lies}
use Rattle.records.proofs.WorkLaws.{work-freely, by_parts}
use Rattle.records.proofs.RefusalLaws.{refusal-taken}
use Rattle.records.proofs.OutcomeLaws.{outcome-taken}
use Rattle.comparison.specs.Verdicts.{agree}
use Rattle.comparison.specs.Agreeing.{same_number, matched_outcomes, matched_refusals, matched_entries}
use Rattle.comparison.specs.Turns.{turn_by}
use Rattle.comparison.specs.Comparing.{next_place, compared_from, compared_logs, compared}
use Rattle.comparison.proofs.PlaceLaws.{compared-on}

-- ---- a log that can be read agrees with itself

-- a log all of whose records can be read, by the first of them
pub data Readable : List ℕ → Type 0 where
  no_record : Readable []
  record-read : {s : List ℕ} (e : Entry) (k : ℕ) → found_in s ≡ log.entry e k → Readable (drop k s) → Readable s

same_self : (x : ℕ) → same_number x x ≡ true
unfolding same_number
same_self x = rw (eq-eqb x x refl)

entry-self : (e : Entry) → matched_entries e e ≡ None
unfolding matched_outcomes matched_refusals
entry-self (log.outcome a) =
    rw (
      eq-eqb a.code a.code refl,
      same_self a.x,
      same_self a.y,
      eq-eqb a.failed a.failed refl,
      eq-eqb a.probes a.probes refl,
    )
entry-self (log.refusal n) = rw (eq-eqb n n refl)

pub agrees-itself : (s : List ℕ) (place : ℕ) → Readable s → compared_from place s s ≡ agree
unfolding found_in turn_by
agrees-itself s place no_record = compared-on place [] []
agrees-itself s place (record-read e k f rest) =
    compared-on place s s ∙ rw (f, entry-self e) (agrees-itself (drop k s) (next_place place) rest)

-- ---- a record in front of a log

never-waits : (b : Bool) → (b && false) ≡ false
never-waits true = refl
never-waits false = refl

whole-in-front : (x rest : List ℕ) → 2 ≤ length x → length x ≡ size_in x →
    found_in (x ++ rest) ≡ found_as (length x) (answer_in x)
unfolding waits
whole-in-front x rest two e =
    let sure : waits x ≡ false =
    rw (le-ltb (length x) 2 two, le-ltb (length x) (size_in x) (omega arith))
    (never-waits (leb (size_in x) longest_answer)) in
    found-append x sure rest ∙ found-there x (omega arith)
    ∙ rw (sym e) (ap (λ (l : List ℕ). found_as (length x) (answer_in l)) (take_all (length x) x (omega arith)))

module _ (x rest : List ℕ) (readable : Readable rest) where
  front : (r : Said) → answer_in x ≡ r → 2 ≤ length x → length x ≡ size_in x → (e : Entry) →
      found_as (length x) r ≡ log.entry e (length x) → Readable (x ++ rest)
  front r z two size e f =
      record-read e (length x) (whole-in-front x rest two size ∙ ap (found_as (length x)) z ∙ f)
      (rw (drop_at x rest (length x) refl) readable)

  pub outcome-in-front : (a : _) → answer_in x ≡ said.outcome a → Readable (x ++ rest)
  unfolding size_in
  outcome-in-front a z =
      let size = outcome-size x a z in
      front (said.outcome a) z (omega (arith, size.1)) (size.1 ∙ ap (λ (n : ℕ). 2 + n) (sym size.0))
      (log.outcome a) refl

  pub refusal-in-front : (n : ℕ) → answer_in x ≡ said.refusal n → Readable (x ++ rest)
  unfolding size_in
  refusal-in-front n z =
      let size = refusal-size x n z in
      front (said.refusal n) z (omega (arith, size.1)) (size.1 ∙ ap (λ (m : ℕ). 2 + m) (sym size.0))
      (log.refusal n) refl

-- ---- our own answers

module _ (b rest : List ℕ) (readable : Readable rest) where
  solved-readable : (x : Numbered) (m : ℕ) → scene_in b ≡ got x m → (o : SceneOutcome) → scene_outcome x.scene ≡ o →
      Readable (reply_to b ++ rest)
  unfolding answered
  solved-readable x m z (outcome code p f n) e =
      outcome-in-front (reply_to b) rest readable _ (outcome-taken b x m code p f n z e)
  solved-readable x m z (refused_scene r) e =
      refusal-in-front (reply_to b) rest readable r (refusal-taken b r (rw (z, e) refl))

  read-readable : (g : Got Numbered) → scene_in b ≡ g → Readable (reply_to b ++ rest)
  unfolding answered
  read-readable (refused r) z = refusal-in-front (reply_to b) rest readable r (refusal-taken b r (rw z refl))
  read-readable (got x m) z = solved-readable x m z (scene_outcome x.scene) refl

  reply-readable : Readable (reply_to b ++ rest)
  reply-readable = read-readable (scene_in b) refl

refusal-readable : (n : ℕ) → said.is_refusal_code (128 + n) ≡ true → (rest : List ℕ) → Readable rest →
    Readable (refusal_bytes n ++ rest)
refusal-readable n coded rest h = refusal-in-front (refusal_bytes n) rest h n (refusal-read-back n coded)

-- the answers to a stream, with a log behind them that can be read
abbrev Answers : List ℕ → Type 0
Answers l = (skip : ℕ) (rest : List ℕ) → Readable rest → Readable ((worked unlimited skip l).answers ++ rest)

part-readable : (skip : ℕ) (l : List ℕ) (q : Part) → Lies skip l q →
    ((k : ℕ) → 1 ≤ k → k ≤ length l → Answers (drop k l)) → (rest : List ℕ) → Readable rest →
    Readable ((onward worked unlimited skip l q).answers ++ rest)
part-readable skip l cut_short (none few) next rest h = h
part-readable skip l (skipped k) (skips one fits there) next rest h = next k one there (skip - k) rest h
part-readable skip l (overlong n) (names z two far e) next rest h =
    let w = worked unlimited n (drop 2 l) in
    rw (append_assoc (refusal_bytes 4) w.answers rest)
    (refusal-readable 4 refl (w.answers ++ rest) (next 2 (omega arith) two n rest h))
part-readable skip l (whole k) (holds z two near there e) next rest h =
    let w = worked unlimited 0 (drop k l) in
    rw (append_assoc (reply_to (take k l)) w.answers rest)
    (reply-readable (take k l) (w.answers ++ rest) (next k (omega arith) there 0 rest h))

work-readable : (l : List ℕ) → Answers l
work-readable =
    by_parts Answers λ l next skip rest h.
    rw (work-freely skip l) (part-readable skip l (part_in skip l) (lies skip l) next rest h)

last-readable : (left : ℕ) → Readable (last_answer left)
unfolding last_answer
last-readable left =
    if-all Readable (eqb left 0) no_record
    (rw (append-nil (refusal_bytes 2)) at (refusal-readable 2 refl [] no_record))

-- All that `feed` answers can be read.
pub own-readable : (scenes : List ℕ) → Readable (answers_to scenes)
unfolding answers_from
own-readable scenes =
    work-readable scenes 0 (last_answer (length (drop (worked unlimited 0 scenes).used scenes))) (last-readable _)

-- "All agree" is said of our own answers.
pub own-agree : (scenes : List ℕ) → compared scenes (answers_to scenes) ≡ agree
unfolding compared compared_logs
own-agree scenes = agrees-itself (answers_to scenes) 0 (own-readable scenes)
