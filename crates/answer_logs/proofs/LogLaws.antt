-- What the code's tests at a byte of a log say of the record there. Assumes nothing.
use Prim.Native.Nat.{ℕ, ◌+◌, ◌-◌, ◌≤◌, ◌<◌}
use native.Mathlib.Omega.{arith}
use mathlib.Core.Path.{◌≡◌, refl, sym, ap, ◌∙◌}
use mathlib.Core.Bool.{Bool, true, false}
use mathlib.Core.List.{List, [], ◌∷◌}
use lib.Dec.{eqb, leb}
use lib.ListN.{length, get_or, take, drop, length-drop, drop_of_length-le}
use lib.Seq.{get_or-drop, take_all}
use native.Mathlib.Nat.{add-zero}
use borrow.Author.Tests.{ne_eqb}
use Rattle.std.specs.Prelude.{Ok}
use Rattle.words.specs.Words.{pair_of}
use Rattle.admission.specs.Faults.{Fault, fault, must, ◌⊳◌, unless_fault}
use Rattle.admission.proofs.FaultLaws.{no-fault}
use Rattle.answer_records.specs.Replies as said
use Rattle.answer_records.specs.Answers.{answer_version}
use Rattle.answer_records.specs.declared.Reply.{Reply}
use Rattle.answer_records.specs.declared.Reply.TheVariants as reply
use Rattle.answer_records.specs.Replies.{Said, said_of, is_length, length_of_code, answer_fault, answer_in}
use Rattle.answer_logs.specs.Logs.{bad, entry_of, found_as, size_in, found_in, replied_as, logged_as, logged_at}
use Rattle.answer_logs.specs.Logs as logged

-- a rule that is told did not pass, and is told by its number
pub rule-told : (b : Bool) (n r : ℕ) → fault r ≡ must b n → (b ≡ false) × (r ≡ n)
rule-told true n r e = absurd (no-fault r (sym e))
rule-told false n r e = (refl, ap (λ (f : Fault). unless_fault (λ (m : ℕ). m) f 0) e)

-- bytes that do not match their length are the fault 2, whatever stands in them
unmatched : (there named : Bool) (f : Fault) (r : Said) →
    unless_fault said.unreadable (must there 2 ⊳ must named 2 ⊳ must false 2 ⊳ f) r ≡ said.unreadable 2
unmatched true true f r = refl
unmatched true false f r = refl
unmatched false named f r = refl

-- a record that is cut short
pub cut_short : (s : List ℕ) → length s < size_in s → answer_in s ≡ said.unreadable 2
unfolding answer_in answer_fault size_in
cut_short s h = rw (ne_eqb (length s) (2 + pair_of s 0) (λ e. omega arith))
    (unmatched (leb 2 (length s)) (is_length (pair_of s 0)) (must (eqb (get_or s 2 0) answer_version) 1 ⊳ must
    (eqb (length_of_code (get_or s 3 0)) (pair_of s 0)) 2) _)

pub found-there : (s : List ℕ) → 0 < length s → found_in s ≡ found_as (size_in s) (answer_in (take (size_in s) s))
unfolding found_in
found-there [] h = absurd (omega arith)
found-there (x ∷ s) h = refl

pub found-cut : (s : List ℕ) → 0 < length s → length s < size_in s → found_in s ≡ bad 2
found-cut s h k = found-there s h ∙ ap (λ (x : Said). found_as (size_in s) x)
    (ap answer_in (take_all (size_in s) s (omega arith)) ∙ cut_short s k)

pub size-at : (s : List ℕ) (at : ℕ) → size_in (drop at s) ≡ 2 + pair_of s at
unfolding size_in pair_of
size-at s at = rw (get_or-drop at s 0 0, get_or-drop at s 1 0, add-zero at)

replied-at : (at size : ℕ) (r : Said) → replied_as (at + size) r ≡ logged_as at (found_as size r)
replied-at at size (said.outcome a) = refl
replied-at at size (said.refusal n) = refl
replied-at at size (said.unreadable n) = refl

pub said-placed : (behind : ℕ) (r : Reply) → logged.placed (entry_of r) behind ≡ replied_as behind (said_of (Ok r))
said-placed behind (reply.Outcome a) = refl
said-placed behind (reply.Refusal r) = refl

module _ (s : List ℕ) (at : ℕ) where
  pub at-end : length s ≤ at → logged.nothing ≡ logged_at s at
  unfolding logged_at found_in
  at-end h = rw (drop_of_length-le s h)

  module _ (h : at < length s) {n : ℕ} (e : n ≡ pair_of s at) where
    there : 0 < length (drop at s)
    there = omega (arith, length-drop at s)

    pub at_cut : length s < at + 2 + n → logged.faulty 2 ≡ logged_at s at
    unfolding logged_at
    at_cut k = sym (ap (logged_as at) (found-cut (drop at s) there (omega (arith, length-drop at s, size-at s at))))

    pub at-reply : {r : Said} → r ≡ answer_in (take (at + 2 + n - at) (drop at s)) → replied_as (at + 2 + n) r ≡ logged_at s at
    unfolding logged_at
    at-reply {r} p =
        let rest = drop at s in
        let size : at + 2 + n - at ≡ size_in rest = omega (arith, size-at s at) in
        let behind : at + 2 + n ≡ at + size_in rest = omega (arith, size-at s at) in
        ap (λ (k : ℕ). replied_as k r) behind ∙ replied-at at (size_in rest) r
        ∙ ap (λ (x : Said). logged_as at (found_as (size_in rest) x)) (p ∙ ap (λ (k : ℕ). answer_in (take k rest)) size)
        ∙ sym (ap (logged_as at) (found-there rest there))
