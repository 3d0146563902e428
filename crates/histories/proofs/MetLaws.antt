-- Lines that do not matter (02, T-13): strictly met lines behind a session that is solving change neither phase nor
-- point and cost a probe each (`met-changes-nothing`); so a batch that changes them has a line that was not strictly
-- met (`changed-has-unmet`), and where none is named the batch changes nothing (`nothing-unmet`). Assumes nothing.
use Prim.Native.Nat.{ℕ, ◌+◌, ◌%◌, ◌≤◌, ◌<◌}
use mathlib.Core.Path.{◌≡◌, refl, sym, ◌∙◌, ap}
use mathlib.Core.Bool.{Bool, true, false}
use mathlib.Core.List.{List, [], ◌∷◌, ◌++◌}
use native.Mathlib.Omega.{arith}
use native.Mathlib.Nat.{add-zero}
use lib.Dec.{leb, eqb, ltb}
use lib.ListN.{length, take, get_or}
use lib.Seq.{take-length}
use lib.Ieee.{Float}
use borrow.Author.Tests.{lt-ltb, ltb-true, ltb-false, leb-true, eqb-true}
use Rattle.arithmetic.specs.Binary32.{when◌then◌else◌}
use Rattle.arithmetic.proofs.Lists.{All, none, more}
use Rattle.common.specs.declared.Vec2.{Vec2}
use Rattle.lines.specs.declared.Line.{Line}
use Rattle.lines.specs.Lines.{most_lines, lines_of, off_line}
use Rattle.admission.specs.Faults.{Fault, fine, fault, must, unless_fault}
use Rattle.admission.proofs.FaultLaws.{⊳-fine, must-fine}
use Rattle.pass_2d.specs.Pass.{pass_line}
use Rattle.linear_programming.specs.Whole.{Phase, solving, Failed, no_line, stands, whole_list}
use Rattle.linear_programming.specs.Admit.{fours}
use Rattle.linear_programming.specs.Read.{phase_of, failed_of}
use Rattle.linear_programming.proofs.Steps.{entered, advance, feed, batch-whole}
use Rattle.linear_programming.proofs.WholeLaws.{Agrees, agree-solving, agree-relaxing, agree-rigid, whole-agrees}
use Rattle.session.specs.declared.Session.{Session}
use Rattle.session.specs.Calls.{At, Nothing, Refused}
use Rattle.session.specs.Sessions.{lines_in, outcome_in}
use Rattle.session.specs.Batches.{origins_fault, fitting, batch_fault, fed_with}
use Rattle.session.specs.Handed.{Handed}
use Rattle.session.specs.Meeting.{is_met, first_unmet, point_now, named, unmet_as}
use Rattle.session.proofs.MeetingWork.{first_on, first-here}
use Rattle.session.proofs.HandedLaws.{fault-free, count-is}
use Rattle.histories.specs.Cuts.{Batch, fed_by, Admitted}
use Rattle.histories.specs.MetLines.{Met, Unchanged, NamesFirst}
use Rattle.histories.proofs.StandLaws.{over-own, stands-whole, batch-taken, batch-over}
use Rattle.histories.proofs.FreshLaws.{phase-same, failed-same}

-- ---- the rules over lines that are met

module _ (rigid : ℕ) (wish : Vec2) (limit : Float) (p : Vec2) where
  advance-met : (e : List Line) (l : Line) (n : ℕ) → Met p l →
      advance rigid wish limit e l (stands (solving p) no_line n) ≡ stands (solving p) no_line (n + 1)
  unfolding advance pass_line entered is_met when◌then◌else◌
  advance-met e l n h = rw h

  feed-met : (e : List Line) {m : List Line} (n : ℕ) → All (Met p) m →
      feed rigid wish limit e m (stands (solving p) no_line n) ≡ stands (solving p) no_line (n + length m)
  unfolding feed
  feed-met e n none = rw add-zero
  feed-met e n (more {x} {xs} h hs) =
      rw (advance-met e x n h) (feed-met (e ++ (x ∷ [])) (n + 1) hs ∙ ap (stands (solving p) no_line) (omega arith))

solving-unfailed : {ph : Phase} {p : Vec2} {f : Failed} {n : ℕ} → Agrees (stands ph f n) → ph ≡ solving p → f ≡ no_line
solving-unfailed agree-solving e = refl
solving-unfailed agree-relaxing e = let z : ◌≡◌ {A = ℕ} 0 1 = cc in absurd (omega arith)
solving-unfailed agree-rigid e = let z : ◌≡◌ {A = ℕ} 0 1 = cc in absurd (omega arith)

-- ---- a batch whose every line is met

module _ {s : Session} (h : Handed s) {p : Vec2} (solves : phase_of s.phase ≡ solving p) where
  unfailed : failed_of s.failed ≡ no_line
  unfailed = solving-unfailed (rw (fault-free s h).stood at (whole-agrees s.rigid s.wish s.limit (lines_in s))) solves

  stood-solving : whole_list s.rigid s.wish s.limit (lines_in s) ≡ stands (solving p) no_line s.probes
  stood-solving = (fault-free s h).stood ∙ rw (solves, unfailed)

  module _ (b : Batch) (admitted : Admitted b) (room : s.count + length (lines_of b.numbers) ≤ most_lines)
      (all : All (Met p) (lines_of b.numbers)) where
    room_in : length (lines_in s) + length (lines_of b.numbers) ≤ most_lines
    room_in = rw (count-is s h) room

    after-met : outcome_in (fed_by s b).session ≡ stands (solving p) no_line (s.probes + length (lines_of b.numbers))
    after-met =
        stands-whole (batch-over (over-own h) b admitted room_in)
        ∙ sym (batch-whole s.rigid s.wish s.limit (lines_in s) (lines_of b.numbers))
        ∙ rw stood-solving (feed-met s.rigid s.wish s.limit p (lines_in s) s.probes all)

    pub met-changes-nothing : Unchanged s b
    met-changes-nothing =
        let t = (fed_by s b).session in
        let e : stands (phase_of t.phase) (failed_of t.failed) t.probes
        ≡ stands (solving p) no_line (s.probes + length (lines_of b.numbers)) = after-met in
        let u = unfailed in
        record {
          taken = batch-taken (over-own h) b admitted room_in;
          phase-stays = phase-same t.phase s.phase (cc);
          failed-stays = failed-same t.failed s.failed (cc);
          one_each = cc;
        }

-- ---- the first that is not met

-- the lines before place k are met, and the one there is not, where there is one
record FirstAt (p : Vec2) (ls : List Line) (k : ℕ) : Type 0 where
  most : k ≤ length ls
  before-met : All (Met p) (take k ls)
  not-met : k < length ls → is_met p (get_or ls k off_line) ≡ false

first_more : (p : Vec2) (l : Line) (ls : List Line) (b : Bool) → is_met p l ≡ b → FirstAt p ls (first_unmet p ls) →
    FirstAt p (l ∷ ls) (first_unmet p (l ∷ ls))
first_more p l ls true h r = rw (first_on p l ls h) (record {
  most = omega (arith, r.most);
  before-met = more h r.before-met;
  not-met = λ k. r.not-met (omega arith);
})
first_more p l ls false h r = rw (first-here p l ls h) (record { most = omega arith; before-met = none; not-met = λ k. h })

first-at : (p : Vec2) (ls : List Line) → FirstAt p ls (first_unmet p ls)
unfolding first_unmet
first-at p [] = record { most = omega arith; before-met = none; not-met = λ k. absurd (omega arith) }
first-at p (l ∷ ls) = first_more p l ls (is_met p l) refl (first-at p ls)

all-met : (p : Vec2) (ls : List Line) → length ls ≤ first_unmet p ls → All (Met p) ls
all-met p ls h =
    let f = first-at p ls in
    let k : first_unmet p ls ≡ length ls = omega (arith, f.most) in
    rw (k, take-length ls) at f.before-met

some-unmet : (p : Vec2) (ls : List Line) (b : Bool) → ltb (first_unmet p ls) (length ls) ≡ b → (All (Met p) ls → ⊥) →
    first_unmet p ls < length ls
some-unmet p ls true e h = ltb-true (first_unmet p ls) (length ls) e
some-unmet p ls false e h = absurd (h (all-met p ls (ltb-false (first_unmet p ls) (length ls) e)))

-- ---- what a batch without a fault is

pub record Passes (count : ℕ) (b : Batch) : Type 0 where
  pub admitted : Admitted b
  pub room : count + length (lines_of b.numbers) ≤ most_lines
  pub alone : batch_fault count b.numbers [] ≡ fine

pub batch-passes : (count : ℕ) (b : Batch) → batch_fault count b.numbers b.brought ≡ fine → Passes count b
unfolding batch_fault fitting
batch-passes count b e =
    let n = length (lines_of b.numbers) in
    let few = ⊳-fine (must (leb count most_lines) 4) e in
    let whole = ⊳-fine (fours b.numbers) few.1 in
    let theirs = ⊳-fine (origins_fault n b.brought) whole.1 in
    let room = ⊳-fine (must (leb (count + n) most_lines) 4) theirs.1 in
    record {
      admitted = record {
        four = eqb-true (length b.numbers % 4) 0 (must-fine (eqb (length b.numbers % 4) 0) 2
            whole.0);
        theirs = theirs.0;
        lines = room.1;
      };
      room = leb-true (count + n) most_lines (must-fine (leb (count + n) most_lines) 4 room.0);
      alone = rw (few.0, whole.0, room.0) room.1;
    }

named-nothing : (count n k : ℕ) (b : Bool) → ltb k n ≡ b → named count n k ≡ Nothing → n ≤ k
unfolding named when◌then◌else◌
named-nothing count n k true e h =
    let z : At (count + k) ≡ Nothing = rw e at h in
    let y : ◌≡◌ {A = ℕ} 0 1 = cc in
    absurd (omega arith)
named-nothing count n k false e h = ltb-false k n e

-- ---- asked beforehand

module _ {s : Session} (h : Handed s) {p : Vec2} (solves : phase_of s.phase ≡ solving p) (b : Batch) where
  abbrev L : List Line
  L = lines_of b.numbers

  unmet-named : batch_fault s.count b.numbers [] ≡ fine → first_unmet p L < length L →
      unmet_as s b.numbers ≡ At (s.count + first_unmet p L)
  unfolding unmet_as point_now named when◌then◌else◌
  unmet-named e k = rw (e, solves, lt-ltb (first_unmet p L) (length L) k)

  changed-by : (f : Fault) → batch_fault s.count b.numbers b.brought ≡ f →
      ((fed_by s b).session.phase ≡ s.phase → ⊥) → NamesFirst s p b
  unfolding fed_with
  changed-by (fault r) e changed = absurd (changed (rw e refl))
  changed-by fine e changed =
      let passes = batch-passes s.count b e in
      let f = first-at p L in
      let inside : first_unmet p L < length L =
      some-unmet p L (ltb (first_unmet p L) (length L)) refl
      (λ all. changed (met-changes-nothing h solves b passes.admitted passes.room all).phase-stays) in
      record {
        place = first_unmet p L;
        inside = inside;
        told = unmet-named passes.alone inside;
        before-met = f.before-met;
        not-met = f.not-met inside;
      }

  -- a batch, whatever its numbers, after which the phase is another, be it another point or no longer solving, has a
  -- line that the point at its arrival did not strictly meet
  pub changed-has-unmet : ((fed_by s b).session.phase ≡ s.phase → ⊥) → NamesFirst s p b
  changed-has-unmet = changed-by (batch_fault s.count b.numbers b.brought) refl

-- so a caller need only ask: where the session names no line, the batch is taken without origins and changes nothing
module _ {s : Session} (h : Handed s) {p : Vec2} (solves : phase_of s.phase ≡ solving p) (xs : List Float) where
  abbrev plain : Batch
  plain = record { numbers = xs; brought = [] }

  nothing-by : (f : Fault) → batch_fault s.count xs [] ≡ f →
      unless_fault Refused f (named s.count (length (lines_of xs)) (first_unmet p (lines_of xs))) ≡ Nothing →
      Unchanged s plain
  nothing-by fine e u =
      let passes = batch-passes s.count plain e in
      met-changes-nothing h solves plain passes.admitted passes.room
      (all-met p (lines_of xs) (named-nothing s.count (length (lines_of xs)) (first_unmet p (lines_of xs))
      (ltb (first_unmet p (lines_of xs)) (length (lines_of xs))) refl u))
  nothing-by (fault r) e u = let y : ◌≡◌ {A = ℕ} 0 1 = cc in absurd (omega arith)

  pub nothing-unmet : unmet_as s xs ≡ Nothing → Unchanged s plain
  unfolding unmet_as point_now
  nothing-unmet u = nothing-by (batch_fault s.count xs []) refl (rw solves at u)
