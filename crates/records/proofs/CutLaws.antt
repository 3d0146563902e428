-- Cutting a stream anywhere, and stopping anywhere for want of room, changes no answer. Assumes nothing.
use Prim.Native.Nat.{ℕ, ◌-◌, ◌≤◌}
use native.Mathlib.Omega.{arith}
use mathlib.Core.Path.{◌≡◌, sym, ap, ◌∙◌}
use mathlib.Core.List.{List, [], ◌++◌}
use lib.ListN.{length, take, drop, length-append}
use lib.Seq.{drop-drop, take-append-le, drop-append-le}
use Rattle.arithmetic.proofs.Choice.{if-all}
use Rattle.answer_records.specs.Answers.{refusal_bytes}
use Rattle.records.specs.Answered.{reply_to}
use Rattle.records.specs.Parts.{Part, skipped, overlong, whole, cut_short, part_in}
use Rattle.records.specs.Streams.{Room, unlimited, has_room, less, Worked, stopped, after, onward, worked}
use Rattle.records.proofs.PartLaws.{Lies, skips, names, holds, none, lies, overlong-stays, whole-stays}
use Rattle.records.proofs.WorkLaws.{after_nothing, after-after, work-on, work-freely, by_parts, skip-some}

-- the work on a with b behind it is w, and then the work on what w leaves of a, with b behind it
pub record Cut (b a : List ℕ) (skip : ℕ) (w : Worked) : Type 0 where
  pub same : worked unlimited skip (a ++ b) ≡ after w.used w.answers (worked unlimited w.skip (drop w.used a ++ b))

module _ (b a : List ℕ) (skip : ℕ) where
  nothing-cut : Cut b a skip (stopped skip)
  nothing-cut = record { same = sym (after_nothing (worked unlimited skip (a ++ b))) }

  behind-cut : (k : ℕ) (x : List ℕ) (s : ℕ) (v : Worked) → worked unlimited skip (a ++ b)
      ≡ after k x (worked unlimited s (drop k a ++ b)) → Cut b (drop k a) s v → Cut b a skip (after k x v)
  behind-cut k x s v e c = record {
    same = e ∙ ap (after k x) c.same
        ∙ after-after k v.used x v.answers (worked unlimited v.skip (drop v.used (drop k a) ++ b))
        ∙ rw drop-drop;
  }

  module _ (next : (k : ℕ) → 1 ≤ k → k ≤ length a → (r : Room) (s : ℕ) → Cut b (drop k a) s (worked r s (drop k a)))
      (room : Room) where
    part_cut : (q : Part) → Lies skip a q → Cut b a skip (onward worked room skip a q)
    part_cut (skipped k) (skips one fits there) =
        let more : k ≤ length (a ++ b) = rw length-append (omega arith) in
        behind-cut k [] (skip - k) (worked room (skip - k) (drop k a)) (skip-some skip k (a ++ b) one fits more
        ∙ rw (drop-append-le k a b there)) (next k one there room (skip - k))
    part_cut (overlong n) (names z two far e) =
        behind-cut 2 (refusal_bytes 4) n (worked (less room (length (refusal_bytes 4))) n (drop 2 a))
        (work-freely skip (a ++ b) ∙ rw (overlong-stays skip a b (names z two far e), drop-append-le 2 a b two))
        (next 2 (omega arith) two (less room (length (refusal_bytes 4))) n)
    part_cut (whole k) (holds z two near there e) =
        let left = less room (length (reply_to (take k a))) in
        behind-cut k (reply_to (take k a)) 0 (worked left 0 (drop k a))
        (work-freely skip (a ++ b) ∙ rw (
          whole-stays skip a b (holds z two near there e),
          take-append-le k a b there,
          drop-append-le k a b there,
        ))
        (next k (omega arith) there left 0)
    part_cut cut_short (none few) = nothing-cut

-- Whatever room there was for the answers to a, the work on a with b behind it is that work, and then the work on what
-- it left of a, with b behind it.
pub cut : (room : Room) (skip : ℕ) (a b : List ℕ) → Cut b a skip (worked room skip a)
cut room skip a b =
    by_parts (λ (a : List ℕ). (room : Room) (skip : ℕ) → Cut b a skip (worked room skip a))
    (λ a next room skip. rw (work-on room skip a)
    (if-all (Cut b a skip) (has_room room) (part_cut b a skip next room (part_in skip a) (lies skip a))
    (nothing-cut b a skip)))
    a room skip
