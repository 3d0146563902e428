-- Laws of the work on a stream: it goes record by record, leaves less than the longest record, and cutting the stream
-- anywhere changes nothing. Assumes nothing.
use Rattle.std.proofs.Common.{◌≡◌, ℕ, ◌+◌, ◌-◌, ◌≤◌, Bool, true, false, List, [], ◌++◌, length, drop, sym, refl, ap, ◌∙◌, append_assoc, add_assoc, zero-add, arith, length-drop, drop-drop}
use mathlib.Core.Bool.{false≢true}
use lib.Seq.{drop-append-le}
use Rattle.arithmetic.specs.Binary32.{when◌then◌else◌}
use Rattle.kept.proofs.WalkLaws.{walk-on}
use Rattle.scene_records.specs.declared.Version.{Version}
use Rattle.scene_records.specs.Versions.{longest_either}
use Rattle.records.proofs.WorkLaws.{by_parts}
use Rattle.conversion.specs.Stages as stage
use Rattle.conversion.specs.Streams.{Met, moves, refuses, waits, met_in, next_place, Walked, stopped, after}
use Rattle.conversion.specs.Streams.{onward, step, walked, is_open}
use Rattle.conversion.proofs.MetLaws.{Meets, moving, refusing, waiting, meets}

-- ---- record by record

pub after_nothing : (w : Walked) → after 0 [] w ≡ w
after_nothing w = rw zero-add

pub after-after : (j k : ℕ) (x y : List ℕ) (w : Walked) → after j x (after k y w) ≡ after (j + k) (x ++ y) w
after-after j k x y w = rw (add_assoc, append_assoc)

module _ (to : Version) where
  step-behind : (f g : ℕ → List ℕ → Walked) (place : ℕ) (l : List ℕ) (q : Met) → Meets to l q →
      ((p k : ℕ) → 1 ≤ k → k ≤ length l → f p (drop k l) ≡ g p (drop k l)) → onward f place l q ≡ onward g place l q
  step-behind f g place l (moves k t) (moving one there short stays) same =
      ap (after k t) (same (next_place place) k one there)
  step-behind f g place l (refuses r) (refusing some stays) same = refl
  step-behind f g place l waits (waiting few) same = refl

  -- no bytes, no record
  step-none : (f : ℕ → List ℕ → Walked) (place : ℕ) (l : List ℕ) (q : Met) → Meets to l q → length l ≤ 0 →
      onward f place l q ≡ stopped place stage.Open
  step-none f place l (moves k t) (moving one there short stays) h = absurd (omega arith)
  step-none f place l (refuses r) (refusing some stays) h = absurd (omega arith)
  step-none f place l waits (waiting few) h = refl

  -- the work is what is met, and the work on what lies behind it
  pub work-on : (place : ℕ) (l : List ℕ) → walked to place l ≡ onward (walked to) place l (met_in to l)
  unfolding walked
  work-on place l =
      walk-on (step to) (λ p. stopped p stage.Open) (λ f g p l same. step-behind f g p l (met_in to l) (meets to l) same)
      (λ f p l h. step-none f p l (met_in to l) (meets to l) h) place l

-- ---- what the work leaves, and what it comes to with more behind it

-- the work on a with b behind it: where the work on a is open, it goes on with what that leaves of a; else nothing
-- changes
abbrev pub resumed : Version → List ℕ → List ℕ → Walked → Walked
resumed to b a w =
    when is_open w.stage then after w.used w.bytes (walked to w.place (drop w.used a ++ b)) else w

-- no more bytes are used than there are; where it is open, fewer are left than the longest record has, and nothing is
-- left to work
pub record Leaves (to : Version) (place : ℕ) (a : List ℕ) (w : Walked) : Type 0 where
  pub fits : w.used ≤ length a
  pub few : is_open w.stage ≡ true → length (drop w.used a) ≤ 1 + longest_either
  pub still : is_open w.stage ≡ true → walked to w.place (drop w.used a) ≡ stopped w.place w.stage
  pub cut : (b : List ℕ) → walked to place (a ++ b) ≡ resumed to b a w

module _ (to : Version) (place : ℕ) (a : List ℕ) where
  -- with what is met, whatever follows
  with-met : (b : List ℕ) (q : Met) → met_in to (a ++ b) ≡ q →
      walked to place (a ++ b) ≡ onward (walked to) place (a ++ b) q
  with-met b q e = work-on to place (a ++ b) ∙ ap (onward (walked to) place (a ++ b)) e

  resume-behind : (k : ℕ) (t b : List ℕ) (w : Walked) (open_is : Bool) →
      after k t (when open_is then after w.used w.bytes
      (walked to w.place (drop w.used (drop k a) ++ b)) else w)
      ≡ (when open_is then after (k + w.used) (t ++ w.bytes)
      (walked to w.place (drop (k + w.used) a ++ b)) else after k t w)
  unfolding when◌then◌else◌
  resume-behind k t b w true =
      after-after k w.used t w.bytes (walked to w.place (drop w.used (drop k a) ++ b))
      ∙ ap (λ (l : List ℕ). after (k + w.used) (t ++ w.bytes) (walked to w.place (l ++ b)))
      (drop-drop w.used k a)
  resume-behind k t b w false = refl

  behind-leaves : (k : ℕ) (t : List ℕ) (w : Walked) → k ≤ length a → ((b : List ℕ) → met_in to (a ++ b) ≡ moves k t) →
      Leaves to (next_place place) (drop k a) w → Leaves to place a (after k t w)
  behind-leaves k t w there stays v = record {
    fits = let f : w.used ≤ length a - k = rw length-drop at v.fits in omega arith;
    few = λ e. rw (drop-drop w.used k a) at (v.few e);
    still = λ e. rw (drop-drop w.used k a) at (v.still e);
    cut = λ b.
        with-met b (moves k t) (stays b)
        ∙ ap (λ (l : List ℕ). after k t (walked to (next_place place) l)) (drop-append-le k a b there)
        ∙ ap (after k t) (v.cut b)
        ∙ resume-behind k t b w (is_open w.stage);
  }

  met-leaves : (q : Met) → Meets to a q → met_in to a ≡ q →
      ((k : ℕ) → 1 ≤ k → k ≤ length a → (p : ℕ) → Leaves to p (drop k a) (walked to p (drop k a))) →
      Leaves to place a (onward (walked to) place a q)
  unfolding when◌then◌else◌
  met-leaves (moves k t) (moving one there short stays) e next =
      behind-leaves k t (walked to (next_place place) (drop k a)) there stays (next k one there (next_place place))
  met-leaves (refuses r) (refusing some stays) e next = record {
    fits = omega arith;
    few = λ h. absurd (false≢true h);
    still = λ h. absurd (false≢true h);
    cut = λ b. with-met b (refuses r) (stays b);
  }
  met-leaves waits (waiting few) e next = record {
    fits = omega arith;
    few = λ h. few;
    still = λ h. work-on to place a ∙ ap (onward (walked to) place a) e;
    cut = λ b. sym (after_nothing (walked to place (a ++ b)));
  }

pub leaves : (to : Version) (a : List ℕ) (place : ℕ) → Leaves to place a (walked to place a)
leaves to =
    by_parts (λ (a : List ℕ). (place : ℕ) → Leaves to place a (walked to place a))
    λ a next place. rw (work-on to place a) (met-leaves to place a (met_in to a) (meets to a) refl next)
