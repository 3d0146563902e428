-- What the code of a change rests on: indices judged, counted and found, turn by turn, and the call's parts. Assumes nothing.
use Rattle.std.proofs.Common.{◌≡◌, ℕ, suc, ◌+◌, ◌-◌, ◌<◌, ◌≤◌, Bool, true, false, ◌&&◌, cond, ltb, leb, List, [], ◌∷◌, ◌++◌, length, get_or, take, drop, set, sym, refl, ◌∙◌, append_assoc, append-nil, add-one, arith, drop_of_length-le, length-take-le, take_all, drop-cons, ltb-true, le-leb, leb-true}
use Rattle.std.specs.List.{count_by}
use Rattle.std.proofs.lemmas.List.Recursion.{is_count_by}
use lib.Ieee.{Float}
use borrow.Author.Tests.{lt-leb}
use Rattle.arithmetic.specs.Binary32.{when◌then◌else◌}
use Rattle.lines.specs.declared.Origin.{Origin}
use Rattle.lines.specs.Lines.{most_lines}
use Rattle.lines.specs.Origins.{unknown}
use Rattle.lines.proofs.Fold.{taken-most, take_set_next}
use Rattle.admission.specs.Faults.{Fault, fine, must, ◌⊳◌}
use Rattle.admission.proofs.FaultLaws.{⊳-fine, must-fine}
use Rattle.session.specs.declared.Session.{Session}
use Rattle.session.specs.Calls.{Fed}
use Rattle.session.specs.Withdrawals.{refused_by, or_given, then_fed, fresh_as, without_all, left_of}
use Rattle.session.specs.Changes.{ascending_fault, change_fault, below_in, lowered_by, changed_as, is_of, index_if, indices_from, indices_of, withdrawing, origin_changed_as}
use Rattle.session.specs.Batches.{fed_with}
use Rattle.session.proofs.WithdrawalWork.{without-few, then-refused, then-given}

-- ---- indices judged

module _ (count low : ℕ) (is : List ℕ) (k : ℕ) where
  -- one index more is judged, and none is left
  pub ascending-next : k < length is → {b : Bool} → b ≡ (leb low (get_or is k 0) && ltb (get_or is k 0) count) →
      ascending_fault count low (drop k is)
      ≡ (must b 15 ⊳ ascending_fault count (get_or is k 0 + 1) (drop (k + 1) is))
  unfolding ascending_fault
  ascending-next h {b} e = rw (drop-cons is k 0 h, add-one k, e) (both (leb low (get_or is k 0)) (ltb (get_or is k 0) count)
      (ascending_fault count (get_or is k 0 + 1) (drop (suc k) is)))
    where
      both : (a b : Bool) (f : Fault) → (must a 15 ⊳ must b 15 ⊳ f) ≡ (must (a && b) 15 ⊳ f)
      both true b f = refl
      both false b f = refl

  pub ascending-done : length is ≤ k → ascending_fault count low (drop k is) ≡ fine
  unfolding ascending_fault
  ascending-done h = rw (drop_of_length-le is h)

-- what the code tests of an index
module _ (low i count : ℕ) where
  pub tested-above : {b : Bool} → low ≤ i → b ≡ ltb i count → b ≡ (leb low i && ltb i count)
  tested-above h e = rw (le-leb low i h) e

  pub tested-below : {b : Bool} → i < low → b ≡ leb low i → b ≡ (leb low i && ltb i count)
  tested-below h e = rw (lt-leb low i h) (e ∙ lt-leb low i h)

  pub tested-true : true ≡ (leb low i && ltb i count) → i < count
  tested-true e = go (leb low i) (ltb i count) refl (sym e)
    where
      go : (a b : Bool) → ltb i count ≡ b → (a && b) ≡ true → i < count
      go true true f g = ltb-true i count f
      go true false f g = absurd (cc)
      go false b f g = absurd (cc)

-- ---- indices below the rigid count

below-counted : (rigid : ℕ) (is : List ℕ) → below_in rigid is ≡ count_by (λ i. ltb i rigid) is
unfolding below_in when◌then◌else◌
below-counted rigid = is_count_by (below_in rigid) (λ i. ltb i rigid) refl (λ i is. step (ltb i rigid) (below_in rigid is))
  where
    step : (b : Bool) (n : ℕ) → (when b then 1 else 0) + n ≡ cond b (1 + n) n
    step true n = refl
    step false n = omega arith

pub lowered-counted : (is : List ℕ) (rigid : ℕ) {n r : ℕ} → n ≡ count_by (λ i. ltb i rigid) is → r ≡ rigid - n → r ≡ lowered_by is rigid
unfolding lowered_by
lowered-counted is rigid e h = rw (below-counted rigid is, ← e) h

-- ---- indices found

module _ (kind place : ℕ) (os : List Origin) (i : ℕ) where
  found-on : i < length os → indices_from kind place i (drop i os)
      ≡ index_if (is_of kind place (get_or os i unknown)) i ++ indices_from kind place (i + 1) (drop (i + 1) os)
  unfolding indices_from
  found-on h = rw (drop-cons os i unknown h, add-one i) refl

  -- one origin more that is looked for, or is not; and none left
  pub found-next : i < length os → true ≡ is_of kind place (get_or os i unknown) → (all f : List ℕ) (n : ℕ) → n < length f →
      all ≡ take n f ++ indices_from kind place i (drop i os) →
      all ≡ take (n + 1) (set f n i) ++ indices_from kind place (i + 1) (drop (i + 1) os)
  unfolding index_if when◌then◌else◌
  found-next h e all f n room g = g ∙ rw (found-on h, ← e, take_set_next f n room i)
      (sym (append_assoc (take n f) (i ∷ []) (indices_from kind place (i + 1) (drop (i + 1) os))))

  pub found-not : i < length os → false ≡ is_of kind place (get_or os i unknown) → (all p : List ℕ) →
      all ≡ p ++ indices_from kind place i (drop i os) → all ≡ p ++ indices_from kind place (i + 1) (drop (i + 1) os)
  unfolding index_if when◌then◌else◌
  found-not h e all p g = g ∙ rw (found-on h, ← e) refl

  pub found_all : length os ≤ i → (all p : List ℕ) → all ≡ p ++ indices_from kind place i (drop i os) → p ≡ all
  unfolding indices_from
  found_all h all p g = sym (g ∙ rw (drop_of_length-le os h) (append-nil p))

-- ---- the call

-- no more indices than lines, and what is left of these are all but as many
module _ {A : Type 0} where
  without-all-few : (is : List ℕ) (low n : ℕ) (l : List A) → ascending_fault n low is ≡ fine → low ≤ n → length l ≤ n →
      (low + length is ≤ n) × (length (without_all is l) ≤ n - length is)
  unfolding ascending_fault without_all
  without-all-few [] low n l e h m = (omega arith, omega arith)
  without-all-few (i ∷ is) low n l e h m =
      let a = ⊳-fine (must (leb low i) 15) e in
      let b = ⊳-fine (must (ltb i n) 15) a.1 in
      let above = leb-true low i (must-fine (leb low i) 15 a.0) in
      let below = ltb-true i n (must-fine (ltb i n) 15 b.0) in
      let rest = without-all-few is (i + 1) n l b.1 (omega arith) m in (
        omega (arith, rest.0),
        rw (omega-eq n (length is)) (without-few i (n - length is) (without_all is l)
            (omega (arith, rest.0)) rest.1),
      )
    where
      omega-eq : (n m : ℕ) → n - suc m ≡ n - m - 1
      omega-eq n m = omega arith

-- what a change without a fault asks of the code
pub change-fits : (count : ℕ) (is : List ℕ) → fine ≡ change_fault count is → (length is ≤ count) × (count ≤ most_lines)
unfolding change_fault
change-fits count is e =
    let a = ⊳-fine (must (leb count most_lines) 4) (sym e) in
    let none : List ℕ = [] in (
      omega (arith, (without-all-few is 0 count none a.1 (omega arith) (omega arith)).0),
      leb-true count most_lines (must-fine (leb count most_lines) 4 a.0),
    )

left-all : {A : Type 0} (l : List A) (count : ℕ) (is : List ℕ) → fine ≡ change_fault count is →
    left_of is count l ≡ without_all is (take count l)
unfolding change_fault
left-all l count is e =
    let a = ⊳-fine (must (leb count most_lines) 4) (sym e) in
    take_all (count - length is) (without_all is (take count l)) (without-all-few is 0 count (take count l) a.1
    (omega arith) (taken-most count l (omega arith))).1

module _ (s : Session) (is : List ℕ) (xs : List Float) (os : List ℕ) (e : fine ≡ change_fault s.count is) where
  -- the fresh session over what is left, as the code says it
  abbrev fresh : Fed
  fresh = fresh_as s.wish s.limit (lowered_by is s.rigid) (left_of is s.count s.lines) (left_of is s.count s.origins)

  changed-left : changed_as s is xs os ≡ or_given s (then_fed fresh xs os)
  unfolding changed_as
  changed-left = rw (← e, left-all s.lines s.count is e, left-all s.origins s.count is e)

  pub changed-refused : {n : ℕ} → refused_by s n ≡ or_given s fresh → changed_as s is xs os ≡ refused_by s n
  changed-refused f = changed-left ∙ then-refused s fresh xs os f

  pub changed-given : {t : Session} → record { judged = fine; session = t } ≡ or_given s fresh →
      changed_as s is xs os ≡ or_given s (fed_with t xs os)
  changed-given f = changed-left ∙ then-given s fresh xs os f

-- a change of the lines that were found
pub origin-right : (s : Session) (kind place : ℕ) (xs : List Float) (os b : List ℕ) (n : ℕ) → n ≤ length b →
    take n b ≡ indices_of s kind place → origin_changed_as s kind place xs os ≡ withdrawing n (changed_as s (take n b) xs os)
unfolding origin_changed_as
origin-right s kind place xs os b n h e =
    let long : length (take n b) ≡ n = length-take-le n b h in
    rw (← e, long) refl
