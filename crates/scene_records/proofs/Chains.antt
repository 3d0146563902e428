-- A chain of steps, taken one by one: the code goes on behind a value, and ends at a refusal. Assumes nothing.
use Prim.Native.Nat.{ℕ, ◌+◌, ◌≤◌}
use native.Mathlib.Omega.{arith}
use mathlib.Core.Path.{◌≡◌, refl, sym, ap}
use mathlib.Core.Bool.{Bool, true, false}
use mathlib.Core.List.{List}
use lib.Dec.{leb, ltb}
use lib.ListN.{length, get_or}
use borrow.Author.Tests.{leb-true, leb-false, ltb-true, ltb-false}
use Rattle.std.specs.Prelude.{Result, Err}
use Rattle.std.specs.Result.{IsErrAnd}
use Rattle.std.proofs.lemmas.Result.{err_from_is_err_and}
use Rattle.admission.specs.Faults.{fine, fault, must}
use Rattle.admission.specs.Heads.{room_for}
use Rattle.admission.proofs.HeadLaws.{room_within}
use Rattle.words.specs.Words.{pair_of, word_of}
use Rattle.fields.specs.Got.{Got, refused, got, then, guard, word}
use Rattle.fields.proofs.WordLaws.{byte-there, pair-there, word-there, word-missing}
use Rattle.admission.specs.declared.refusal.Refusal.{Refusal}
use Rattle.admission.specs.Refusals.{number_of}
use Rattle.admission.proofs.FaultLaws.{refusal-back}
use Rattle.scene_records.specs.Steps.{read_of, told, RefusedAs}
use Rattle.scene_records.specs.Records.{read_as}
use Rattle.scene_records.specs.declared.NumberedScene.{NumberedScene}
use Rattle.scene_records.specs.Versions.{Numbered, numbered_as}

-- ---- a step that was refused, or gave a value

pub then-refused : {A B : Type 0} (g : Got A) (k : A → ℕ → Got B) (n : ℕ) → refused n ≡ g → then g k ≡ refused n
then-refused g k n e = rw (← e) refl

pub then-value : {A B : Type 0} (g : Got A) (k : A → ℕ → Got B) (a : A) (m : ℕ) → got a m ≡ g → then g k ≡ k a m
then-value g k a m e = rw (← e) refl

-- ---- a rule that did not pass, or passed

pub failed : (b : Bool) (n m : ℕ) → fault m ≡ must b n → (b ≡ false) × (m ≡ n)
failed true n m e = absurd (let z : ◌≡◌ {A = ℕ} 0 1 = cc in omega arith)
failed false n m e = (refl, (let z : m ≡ n = cc in z))

pub passed : (b : Bool) (n : ℕ) → fine ≡ must b n → b ≡ true
passed true n e = refl
passed false n e = absurd (let z : ◌≡◌ {A = ℕ} 0 1 = cc in omega arith)

pub guard-refused : {A : Type 0} (b : Bool) (n : ℕ) (g : Got A) (m : ℕ) → fault m ≡ must b n → guard b n g ≡ refused m
guard-refused b n g m e = let p = failed b n m e in rw (p.0, p.1) refl

pub guard-passed : {A : Type 0} (b : Bool) (n : ℕ) (g : Got A) → fine ≡ must b n → guard b n g ≡ g
guard-passed b n g e = rw (passed b n e) refl

-- ---- what a `?` returns

pub result-exit : {A : Type 0} (r : Result A Refusal) (e : Refusal) → IsErrAnd r (λ y. y ≡ e) → r ≡ Err e
result-exit r e h = let p = err_from_is_err_and r h in rw (p.1, p.2) refl

pub read_exit : {A : Type 0} (r : Result (A × ℕ) Refusal) (e : Refusal) → IsErrAnd r (λ y. y ≡ e) → read_of r ≡ refused (number_of e)
read_exit r e h = rw (result-exit r e h) refl

pub told_exit : {A : Type 0} (r : Result ℕ Refusal) (a : A) (e : Refusal) → IsErrAnd r (λ y. y ≡ e) → told r a ≡ refused (number_of e)
told_exit r a e h = rw (result-exit r e h) refl

pub ruleset chain = (then-refused, then-value, guard-refused, guard-passed, result-exit, read_exit, told_exit)

-- ---- what the readers hand over at a refusal

pub numbered_refused : (e : Refusal) → numbered_as (refused (number_of e)) ≡ Err e
numbered_refused e = ap Err (refusal-back e)

pub numbered-exit : (r : Result NumberedScene Refusal) (e : Refusal) (g : Got Numbered) → IsErrAnd r (λ y. y ≡ e) →
    g ≡ refused (number_of e) → r ≡ numbered_as g
numbered-exit r e g h p = rw (result-exit r e h, p) (sym (numbered_refused e))

pub refused-exit : {A B : Type 0} (r : Result A Refusal) (e : Refusal) (g : Got B) → IsErrAnd r (λ y. y ≡ e) →
    g ≡ refused (number_of e) → RefusedAs r g
refused-exit r e g h p = rw (result-exit r e h) p

pub read_refused : (e : Refusal) → read_as (refused (number_of e)) ≡ Err e
read_refused e = ap Err (refusal-back e)

pub ruleset answers = (chain, numbered_refused, refused-exit, read_refused)

-- ---- bytes that are missing or there

module _ (s : List ℕ) where
  pub byte_none : (at m : ℕ) → fault m ≡ must (ltb at (length s)) 2 → word 1 s at ≡ refused m
  byte_none at m e = let p = failed _ 2 m e in rw (← word-missing 1 s at (let h = ltb-false _ _ p.0 in omega arith), p.1) refl

  pub byte_some : (at : ℕ) → fine ≡ must (ltb at (length s)) 2 → word 1 s at ≡ got (get_or s at 0) (at + 1)
  byte_some at e = sym (byte-there s at (ltb-true _ _ (passed _ 2 e)))

  pub pair_none : (m : ℕ) → fault m ≡ must (leb 2 (length s)) 2 → word 2 s 0 ≡ refused m
  pair_none m e = let p = failed _ 2 m e in rw (← word-missing 2 s 0 (let h = leb-false _ _ p.0 in omega arith), p.1) refl

  pub pair_some : fine ≡ must (leb 2 (length s)) 2 → word 2 s 0 ≡ got (pair_of s 0) 2
  pair_some e = sym (pair-there s 0 (leb-true _ _ (passed _ 2 e)))

  pub word_none : (at m : ℕ) → fault m ≡ must (leb (at + 4) (length s)) 2 → word 4 s at ≡ refused m
  unfolding word
  word_none at m e = guard-refused _ 2 _ m e

  pub word_some : (at : ℕ) → fine ≡ must (leb (at + 4) (length s)) 2 → word 4 s at ≡ got (word_of s at) (at + 4)
  word_some at e = sym (word-there s at (leb-true _ _ (passed _ 2 e)))

pub ruleset fields = (chain, byte_none, byte_some, pair_none, pair_some, word_none, word_some)

-- a head that was read leaves room for its vertices
pub head-fits : (total n : ℕ) → fine ≡ must (room_for total n) 4 → (n ≤ 64) × (total + n ≤ 192)
head-fits total n e = room_within total n (passed _ 4 e)

pub ruleset heads = (chain, head-fits)
