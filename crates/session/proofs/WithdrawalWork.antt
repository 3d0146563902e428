-- What the code of a withdrawal rests on: which line comes to stand where, origins as numbers there and back, the numbers of
-- what is left, and the call's parts. Assumes nothing.
use Rattle.std.proofs.Common.{◌≡◌, ℕ, zero, suc, ◌+◌, ◌-◌, ◌*◌, ◌%◌, ◌<◌, ◌≤◌, Bool, true, false, ltb, leb, List, [], ◌∷◌, ◌++◌, length, get_or, take, drop, sym, refl, ap, ◌∙◌, add-one, arith, drop_of_length-le, length-take-le, take_all, drop-cons, get_or-take, ltb-false, ltb-true, le-ltb, lt-ltb, leb-true}
use lib.Ieee.{Float}
use Rattle.arithmetic.specs.Binary32.{when◌then◌else◌}
use Rattle.lines.specs.declared.Line.{Line}
use Rattle.lines.specs.declared.Origin.{Origin}
use Rattle.lines.specs.Lines.{most_lines, lines_of, numbers_of}
use Rattle.lines.specs.Origins.{origin, origins_of}
use Rattle.lines.proofs.Fold.{take_next, taken-most}
use Rattle.lines.proofs.Rows.{lines-take}
use Rattle.lines.proofs.Numbers.{numbers-back}
use Rattle.admission.specs.Faults.{Fault, fine, fault, must}
use Rattle.admission.proofs.FaultLaws.{⊳-fine, must-fine}
use Rattle.session.specs.declared.Session.{Session}
use Rattle.session.specs.Calls.{Fed}
use Rattle.session.specs.Batches.{fed_with}
use Rattle.session.specs.Withdrawals.{refused_by, or_given, then_fed, fresh_as, threes_of, without, without_all, left_of, source_of, source_in, lowered, withdrawal_fault, withdrawn_as}
use Rattle.session.specs.Changes.{below_in, lowered_by}

-- ---- which element comes to stand where

pub source-below : (i n : ℕ) → n < i → source_of i n ≡ n
unfolding source_of when◌then◌else◌
source-below i n h = simp (lt-ltb n i h)

pub source-above : (i n : ℕ) → i ≤ n → source_of i n ≡ n + 1
unfolding source_of when◌then◌else◌
source-above i n h = simp (le-ltb n i h)

-- turn by turn over the indices
pub source-on : (is : List ℕ) (k n : ℕ) → k < length is → source_in (drop k is) n
    ≡ source_in (drop (k + 1) is) (source_of (get_or is k 0) n)
unfolding source_in
source-on is k n h = rw (drop-cons is k 0 h, add-one) refl

pub source-none : (is : List ℕ) (k n : ℕ) → length is ≤ k → source_in (drop k is) n ≡ n
unfolding source_in
source-none is k n h = rw (drop_of_length-le is h)

module _ {A : Type 0} where
  pub without_fewer : (i : ℕ) (l : List A) → i < length l → length (without i l) + 1 ≡ length l
  unfolding without
  without_fewer i [] h = absurd (omega arith)
  without_fewer zero (x ∷ l) h = omega arith
  without_fewer (suc i) (x ∷ l) h = let k = without_fewer i l (omega arith) in omega arith

  -- whatever the index, at most one goes
  without-most : (i : ℕ) (l : List A) → length l ≤ length (without i l) + 1
  unfolding without
  without-most i [] = omega arith
  without-most zero (x ∷ l) = omega arith
  without-most (suc i) (x ∷ l) = let k = without-most i l in omega arith

  pub without-all-most : (is : List ℕ) (l : List A) → length l ≤ length (without_all is l) + length is
  unfolding without_all
  without-all-most [] l = omega arith
  without-all-most (i ∷ is) l =
      let k = without-all-most is l in
      let h = without-most i (without_all is l) in
      omega arith

  left_below : (i n : ℕ) (l : List A) (d : A) → n < i → get_or (without i l) n d ≡ get_or l n d
  unfolding without
  left_below i n [] d h = refl
  left_below zero n (x ∷ l) d h = absurd (omega arith)
  left_below (suc i) zero (x ∷ l) d h = refl
  left_below (suc i) (suc n) (x ∷ l) d h = left_below i n l d (omega arith)

  left-above : (i n : ℕ) (l : List A) (d : A) → i ≤ n → get_or (without i l) n d ≡ get_or l (suc n) d
  unfolding without
  left-above i n [] d h = refl
  left-above zero n (x ∷ l) d h = refl
  left-above (suc i) zero (x ∷ l) d h = absurd (omega arith)
  left-above (suc i) (suc n) (x ∷ l) d h = left-above i n l d (omega arith)

  left_at : (i n : ℕ) (l : List A) (d : A) → get_or (without i l) n d ≡ get_or l (source_of i n) d
  left_at i n l d = go (ltb n i) refl
    where
      go : (b : Bool) → ltb n i ≡ b → get_or (without i l) n d ≡ get_or l (source_of i n) d
      go true e = rw (source-below i n (ltb-true n i e)) (left_below i n l d (ltb-true n i e))
      go false e = rw (source-above i n (ltb-false n i e), add-one) (left-above i n l d (ltb-false n i e))

  left_in : (is : List ℕ) (n : ℕ) (l : List A) (d : A) → get_or (without_all is l) n d ≡ get_or l (source_in is n) d
  unfolding without_all source_in
  left_in [] n l d = refl
  left_in (i ∷ is) n l d = left_at i n (without_all is l) d ∙ left_in is (source_of i n) l d

  -- one element more of those that are left
  module _ (l : List A) (count : ℕ) (is : List ℕ) (n : ℕ) (size : count ≤ length l) (more : n < count - length is)
      (near : source_in is n ≤ n + length is) where
    pub laid_next : (d x : A) → x ≡ get_or l (source_in is n) d → take (n + 1) (without_all is (take count l))
        ≡ take n (without_all is (take count l)) ++ (x ∷ [])
    laid_next d x e =
        let k = length-take-le count l size in
        let h = without-all-most is (take count l) in
        rw (
          take_next (without_all is (take count l)) n (omega arith) d,
          left_in is n (take count l) d,
          get_or-take count l (source_in is n) d (omega (arith, near)),
          e,
        )

  -- an index that is below a bound of the list's length
  pub without-few : (i n : ℕ) (l : List A) → i < n → length l ≤ n → length (without i l) ≤ n - 1
  unfolding without
  without-few i n [] h m = omega arith
  without-few zero n (x ∷ l) h m = omega arith
  without-few (suc i) n (x ∷ l) h m = let k = without-few i (n - 1) l (omega arith) (omega arith) in omega arith

  -- one index below the count leaves all but one
  pub left_one : (l : List A) (count i : ℕ) → i < count → left_of (i ∷ []) count l ≡ without i (take count l)
  unfolding without_all
  left_one l count i below = take_all (count - 1) (without i (take count l))
      (without-few i count (take count l) below (taken-most count l (omega arith)))

-- ---- origins as numbers, there and back

pub origins-back : (os : List Origin) → origins_of (threes_of os) ≡ os
unfolding threes_of origins_of
origins-back [] = refl
origins-back (o ∷ os) = ap (λ (l : List Origin). o ∷ l) (origins-back os)

pub threes-long : (os : List Origin) → length (threes_of os) ≡ 3 * length os
unfolding threes_of
threes-long [] = refl
threes-long (o ∷ os) = let h = threes-long os in omega arith

threes-back : (b : List ℕ) → length b % 3 ≡ 0 → threes_of (origins_of b) ≡ b
unfolding threes_of origins_of
threes-back [] h = refl
threes-back (x ∷ []) h = absurd (omega arith)
threes-back (x ∷ y ∷ []) h = absurd (omega arith)
threes-back (x ∷ y ∷ z ∷ r) h = ap (λ (b : List ℕ). x ∷ y ∷ z ∷ b) (threes-back r (omega arith))

three-more : (n : ℕ) → ((r : List ℕ) → origins_of (take (3 * n) r) ≡ take n (origins_of r)) → (b : List ℕ) →
    origins_of (take (suc (suc (suc (3 * n)))) b) ≡ take (suc n) (origins_of b)
unfolding origins_of
three-more n h [] = refl
three-more n h (x ∷ []) = refl
three-more n h (x ∷ y ∷ []) = refl
three-more n h (x ∷ y ∷ z ∷ r) = ap (λ (l : List Origin). origin x y z ∷ l) (h r)

origins-take : (b : List ℕ) (n : ℕ) → origins_of (take (3 * n) b) ≡ take n (origins_of b)
unfolding origins_of
origins-take b zero = refl
origins-take b (suc n) =
    let e : 3 * suc n ≡ suc (suc (suc (3 * n))) = omega arith in
    rw e (three-more n (λ r. origins-take r n) b)

-- ---- the numbers that were laid out are those of what is left

pub laid-lines : (b : List Float) (n m : ℕ) (ls : List Line) → m ≡ 4 * n → m ≤ length b → take n (lines_of b) ≡ ls →
    take m b ≡ numbers_of ls
laid-lines b n m ls f h e =
    let size : length (take m b) ≡ m = length-take-le m b h in
    sym (numbers-back (take m b) (omega arith)) ∙ ap numbers_of (rw f (lines-take b n) ∙ e)

pub laid-origins : (b : List ℕ) (n m : ℕ) (os : List Origin) → m ≡ 3 * n → m ≤ length b → take n (origins_of b) ≡ os →
    take m b ≡ threes_of os
laid-origins b n m os f h e =
    let size : length (take m b) ≡ m = length-take-le m b h in
    sym (threes-back (take m b) (omega arith)) ∙ ap threes_of (rw f (origins-take b n) ∙ e)

-- ---- a session that was made, or the one that stands beside its refusal

module _ (s : Session) (f : Fed) where
  given-judged : (or_given s f).judged ≡ f.judged
  given-judged = go f.judged refl
    where
      go : (j : Fault) → f.judged ≡ j → (or_given s f).judged ≡ f.judged
      go fine e = rw e refl
      go (fault n) e = rw e refl

  given-refused : {n : ℕ} → refused_by s n ≡ or_given s f → f.judged ≡ fault n
  given-refused e = sym (ap (λ (r : Fed). r.judged) e ∙ given-judged)

  given-fine : {t : Session} → record { judged = fine; session = t } ≡ or_given s f → f ≡ record { judged = fine; session = t }
  given-fine e =
      let j : f.judged ≡ fine = sym (ap (λ (r : Fed). r.judged) e ∙ given-judged) in
      ap (λ (k : Fault). record { judged = k; session = f.session }) j ∙ sym (rw j at e)

  -- and fed a batch
  pub then-refused : {n : ℕ} (xs : List Float) (os : List ℕ) → refused_by s n ≡ or_given s f →
      or_given s (then_fed f xs os) ≡ refused_by s n
  then-refused xs os e = rw (given-refused e) refl

  pub then-given : {t : Session} (xs : List Float) (os : List ℕ) → record { judged = fine; session = t } ≡ or_given s f →
      or_given s (then_fed f xs os) ≡ or_given s (fed_with t xs os)
  then-given xs os e = rw (given-fine e) refl

-- ---- the call

-- without a fault the index is below the count, which is at most 256
pub below-count : (count i : ℕ) → fine ≡ withdrawal_fault count i → (i < count) × (count ≤ most_lines)
unfolding withdrawal_fault
below-count count i e =
    let k = ⊳-fine (must (leb count most_lines) 4) (sym e) in
    (ltb-true i count (must-fine (ltb i count) 15 k.1), leb-true count most_lines (must-fine (leb count most_lines) 4 k.0))

-- one index lowers the rigid count as several do
pub lowered-by-one : (i rigid : ℕ) → lowered_by (i ∷ []) rigid ≡ lowered i rigid
unfolding lowered_by below_in lowered when◌then◌else◌
lowered-by-one i rigid = go (ltb i rigid) refl
  where
    go : (b : Bool) → ltb i rigid ≡ b → lowered_by (i ∷ []) rigid ≡ lowered i rigid
    go true e = rw e (omega arith)
    go false e = rw e (omega arith)

module _ (s : Session) (i : ℕ) (e : fine ≡ withdrawal_fault s.count i) where
  -- what is left without one line, as the code for several says it
  pub withdrawn-left : withdrawn_as s i ≡ or_given s (fresh_as s.wish s.limit (lowered_by (i ∷ []) s.rigid)
      (left_of (i ∷ []) s.count s.lines) (left_of (i ∷ []) s.count s.origins))
  unfolding withdrawn_as
  withdrawn-left =
      let b = below-count s.count i e in
      rw (← e, lowered-by-one i s.rigid, left_one s.lines s.count i b.0, left_one s.origins s.count i b.0)
