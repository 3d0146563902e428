-- A change of a session that was handed out (docs/changes/change.md): it is taken where its indices ascend and its
-- batch fits what is left, and then is, as a value, the withdrawals from the highest index down and the batch behind
-- them; refused, it is as if it had never been offered. Assumes nothing.
use Prim.Native.Nat.{ℕ, ◌+◌, ◌-◌, ◌≤◌, ◌<◌}
use mathlib.Core.Path.{◌≡◌, refl, sym, ◌∙◌, ap}
use mathlib.Core.Bool.{Bool, true, false}
use mathlib.Core.List.{List, [], ◌∷◌, ◌++◌}
use native.Mathlib.Omega.{arith}
use lib.Dec.{leb, ltb}
use lib.ListN.{length}
use lib.Ieee.{Float}
use borrow.Author.Tests.{lt-ltb, le-ltb, le-leb, ltb-true, ltb-false, leb-true}
use Rattle.arithmetic.specs.Binary32.{when◌then◌else◌}
use Rattle.common.specs.declared.Vec2.{Vec2}
use Rattle.lines.specs.declared.Line.{Line}
use Rattle.lines.specs.declared.Origin.{Origin}
use Rattle.lines.specs.Lines.{most_lines, lines_of}
use Rattle.lines.specs.LineFaults.{lines_fault}
use Rattle.admission.specs.Faults.{Fault, fine, fault, must, ◌⊳◌, unless_fault}
use Rattle.admission.proofs.FaultLaws.{no-fault, ⊳-fine, must-fine}
use Rattle.session.specs.declared.Session.{Session}
use Rattle.session.specs.Calls.{Fed}
use Rattle.session.specs.Sessions.{lines_in, origins_in}
use Rattle.session.specs.Batches.{batch_fault, fed_with}
use Rattle.session.specs.Handed.{Handed}
use Rattle.session.specs.Withdrawals.{refused_by, or_given, then_fed, fresh_as, without_all, lowered}
use Rattle.session.specs.Changes.{ascending_fault, change_fault, below_in, lowered_by, changed_as, is_of, index_if, indices_from, indices_of}
use Rattle.session.proofs.WithdrawalWork.{without_fewer}
use Rattle.session.proofs.HandedLaws.{count-is, continues}
use Rattle.histories.specs.Cuts.{Batch, fed_by, Admitted, arriving}
use Rattle.histories.specs.Histories.{Operation, batch, withdrawal, changed_by, done_by, done_all, Ascending, ascended, ascends, downward}
use Rattle.histories.proofs.StandLaws.{StandsOver, over-own, wish-admitted, lines-admitted, batch-taken, batch-over}
use Rattle.histories.proofs.FreshLaws.{count-over, few-over, origins-over, same-session, FreshRight, fresh-right, without-admitted, withdrawn-taken, withdrawn-over}
use Rattle.histories.proofs.MetLaws.{batch-passes}

-- ---- ascending indices

ascending-fine : {count low : ℕ} {is : List ℕ} → Ascending count low is → ascending_fault count low is ≡ fine
unfolding ascending_fault
ascending-fine ascended = refl
ascending-fine {count} {low} (ascends {i = i} above below rest) =
    rw (le-leb low i above, lt-ltb i count below) (ascending-fine rest)

fine-ascending : (count low : ℕ) (is : List ℕ) → ascending_fault count low is ≡ fine → Ascending count low is
unfolding ascending_fault
fine-ascending count low [] e = ascended
fine-ascending count low (i ∷ is) e =
    let a = ⊳-fine (must (leb low i) 15) e in
    let b = ⊳-fine (must (ltb i count) 15) a.1 in
    ascends (leb-true low i (must-fine (leb low i) 15 a.0)) (ltb-true i count (must-fine (ltb i count) 15 b.0))
    (fine-ascending count (i + 1) is b.1)

-- there are no more of them than places
ascending-few : {count low : ℕ} {is : List ℕ} → Ascending count low is → low ≤ count → low + length is ≤ count
ascending-few ascended h = omega arith
ascending-few (ascends above below rest) h = let k = ascending-few rest (omega arith) in omega arith

pub without-all-long : {A : Type 0} {count low : ℕ} {is : List ℕ} → Ascending count low is → (ls : List A) →
    length ls ≡ count → length (without_all is ls) + length is ≡ count
unfolding without_all
without-all-long ascended ls e = omega arith
without-all-long (ascends {i = i} {is = is} above below rest) ls e =
    let k = without-all-long rest ls e in
    let f = ascending-few rest (omega arith) in
    let w = without_fewer i (without_all is ls) (omega arith) in
    omega arith

-- each index is below what is left when its turn comes
still-below : {A : Type 0} {count i : ℕ} {is : List ℕ} → i < count → Ascending count (i + 1) is → (ls : List A) →
    length ls ≡ count → i < length (without_all is ls)
still-below below rest ls e =
    let k = without-all-long rest ls e in
    let f = ascending-few rest (omega arith) in
    omega arith

without-all-admitted : (is : List ℕ) (ls : List Line) → lines_fault ls ≡ fine → lines_fault (without_all is ls) ≡ fine
unfolding without_all
without-all-admitted [] ls e = e
without-all-admitted (i ∷ is) ls e = without-admitted i (without_all is ls) (without-all-admitted is ls e)

-- ---- the rigid count: one less for each index below it is one less at each withdrawal from the highest index down

abbrev lowered_down : List ℕ → ℕ → ℕ
lowered_down [] rigid = rigid
lowered_down (i ∷ is) rigid = lowered i (lowered_down is rigid)

pub lowered-one : (i rigid : ℕ) → i < rigid → lowered i rigid ≡ rigid - 1
unfolding lowered when◌then◌else◌
lowered-one i rigid h = simp (lt-ltb i rigid h)

pub lowered_none : (i rigid : ℕ) → rigid ≤ i → lowered i rigid ≡ rigid
unfolding lowered when◌then◌else◌
lowered_none i rigid h = simp (le-ltb i rigid h)

below_one : (rigid i : ℕ) (is : List ℕ) → i < rigid → below_in rigid (i ∷ is) ≡ 1 + below_in rigid is
unfolding below_in when◌then◌else◌
below_one rigid i is h = simp (lt-ltb i rigid h)

below-not : (rigid i : ℕ) (is : List ℕ) → rigid ≤ i → below_in rigid (i ∷ is) ≡ 0 + below_in rigid is
unfolding below_in when◌then◌else◌
below-not rigid i is h = simp (le-ltb i rigid h)

-- none from the rigid count on; else no more than places from `low` on
below_none : (rigid : ℕ) {count low : ℕ} {is : List ℕ} → Ascending count low is → rigid ≤ low → below_in rigid is ≡ 0
unfolding below_in
below_none rigid ascended h = refl
below_none rigid (ascends {i = i} {is = is} above below rest) h =
    let k = below_none rigid rest (omega arith) in
    let n = below-not rigid i is (omega arith) in
    n ∙ omega arith

few-step : (rigid low i : ℕ) (is : List ℕ) (b : Bool) → ltb i rigid ≡ b → low ≤ i → low ≤ rigid →
    (i + 1 ≤ rigid → below_in rigid is + (i + 1) ≤ rigid) → (rigid ≤ i + 1 → below_in rigid is ≡ 0) →
    below_in rigid (i ∷ is) + low ≤ rigid
few-step rigid low i is true e above h few none =
    let k = ltb-true i rigid e in
    let f = few (omega arith) in
    let n = below_one rigid i is k in
    omega arith
few-step rigid low i is false e above h few none =
    let k = ltb-false i rigid e in
    let f = none (omega arith) in
    let n = below-not rigid i is k in
    omega arith

below-few : (rigid : ℕ) {count low : ℕ} {is : List ℕ} → Ascending count low is → low ≤ rigid → below_in rigid is + low ≤ rigid
unfolding below_in
below-few rigid ascended h = omega arith
below-few rigid {low = low} (ascends {i = i} {is = is} above below rest) h =
    few-step rigid low i is (ltb i rigid) refl above h (below-few rigid rest) (below_none rigid rest)

lowered-step : (rigid i : ℕ) (is : List ℕ) (b : Bool) → ltb i rigid ≡ b → lowered_down is rigid ≡ rigid - below_in rigid is →
    (i + 1 ≤ rigid → below_in rigid is + (i + 1) ≤ rigid) → lowered i (lowered_down is rigid) ≡ rigid - below_in rigid (i ∷ is)
lowered-step rigid i is true e h few =
    let k = ltb-true i rigid e in
    let f = few (omega arith) in
    rw (h, below_one rigid i is k) (lowered-one i (rigid - below_in rigid is) (omega arith) ∙ omega arith)
lowered-step rigid i is false e h few =
    let k = ltb-false i rigid e in
    rw (h, below-not rigid i is k) (lowered_none i (rigid - below_in rigid is) (omega arith) ∙ omega arith)

each_below : (rigid : ℕ) {count low : ℕ} {is : List ℕ} → Ascending count low is →
    lowered_down is rigid ≡ rigid - below_in rigid is
unfolding below_in
each_below rigid ascended = omega arith
each_below rigid (ascends {i = i} {is = is} above below rest) =
    lowered-step rigid i is (ltb i rigid) refl (each_below rigid rest) (below-few rigid rest)

pub lowered-each : (rigid : ℕ) {count low : ℕ} {is : List ℕ} → Ascending count low is →
    lowered_down is rigid ≡ lowered_by is rigid
unfolding lowered_by
lowered-each rigid up = each_below rigid up

-- ---- from the highest down

done-append : (s : Session) (os ps : List Operation) → done_all s (os ++ ps) ≡ done_all (done_all s os) ps
done-append s [] ps = refl
done-append s (o ∷ os) ps = done-append (done_by s o).session os ps

-- no call is refused
pub data AllTaken : Session → List Operation → Type 0 where
  all-taken : {s : Session} → AllTaken s []
  one-taken : {s : Session} {o : Operation} {os : List Operation} → (done_by s o).judged ≡ fine →
      AllTaken (done_by s o).session os → AllTaken s (o ∷ os)

taken-append : {s : Session} {os ps : List Operation} → AllTaken s os → AllTaken (done_all s os) ps → AllTaken s (os ++ ps)
taken-append all-taken b = b
taken-append (one-taken e a) b = one-taken e (taken-append a b)

module _ {s : Session} {rigid : ℕ} {wish : Vec2} {limit : Float} {lines : List Line} {origins : List Origin}
    (o : StandsOver s rigid wish limit lines origins) where
  down-over : {low : ℕ} {is : List ℕ} → Ascending (length lines) low is →
      StandsOver (done_all s (downward is)) (lowered_down is rigid) wish limit (without_all is lines) (without_all is origins)
  unfolding without_all
  down-over ascended = o
  down-over (ascends {i = i} {is = is} above below rest) =
      rw (done-append s (downward is) (withdrawal i ∷ [])) (withdrawn-over (down-over rest) i (still-below below rest lines refl))

  down-taken : {low : ℕ} {is : List ℕ} → Ascending (length lines) low is → AllTaken s (downward is)
  down-taken ascended = all-taken
  down-taken (ascends {i = i} {is = is} above below rest) =
      taken-append (down-taken rest) (one-taken (withdrawn-taken (down-over rest) i (still-below below rest lines refl))
      all-taken)

  -- ---- a change whose indices ascend

  module _ (is : List ℕ) (up : Ascending (length lines) 0 is) where
    pub left-right : FreshRight wish limit (lowered_by is rigid) (without_all is lines) (without_all is origins)
    left-right =
        let n = without-all-long up lines refl in
        let m = without-all-long up origins (origins-over o) in
        fresh-right wish limit (lowered_by is rigid) (without_all is lines) (without_all is origins) (wish-admitted o)
        (without-all-admitted is lines (lines-admitted o))
        (omega (arith, few-over o)) (omega arith)

    abbrev fresh : Session
    fresh = (fresh_as wish limit (lowered_by is rigid) (without_all is lines) (without_all is origins)).session

    no-fault-yet : change_fault s.count is ≡ fine
    unfolding change_fault
    no-fault-yet = rw (le-leb s.count most_lines o.handed.fits, count-over o) (ascending-fine up)

    -- it is the batch fed to the fresh session, or the session that was given
    pub changed-fed : (b : Batch) → changed_by s is b ≡ or_given s (fed_by fresh b)
    unfolding changed_as
    changed-fed b = rw (no-fault-yet, o.wish-is, o.limit_is, o.rigid-is, o.lines_are, o.origins-are, left-right.taken)

    -- ---- and whose batch fits what is left
    module _ (b : Batch) (admitted : Admitted b) (room : length (without_all is lines) + length (lines_of b.numbers)
        ≤ most_lines) where
      fed-taken : (fed_by fresh b).judged ≡ fine
      fed-taken = batch-taken left-right.over b admitted room

      changed-whole : changed_by s is b ≡ fed_by fresh b
      changed-whole = changed-fed b ∙ rw fed-taken

      pub change-taken : (changed_by s is b).judged ≡ fine
      change-taken = rw changed-whole fed-taken

      pub change-over : StandsOver (changed_by s is b).session (lowered_by is rigid) wish limit
          (without_all is lines ++ lines_of b.numbers) (without_all is origins ++ arriving b)
      change-over = rw changed-whole (batch-over left-right.over b admitted room)

      -- the same value as withdrawing from the highest index down and then feeding the batch, each of which is taken
      pub change-is-withdraw-then-batch : (changed_by s is b).session ≡ done_all s (downward is ++ (batch b ∷ []))
      change-is-withdraw-then-batch =
          same-session change-over (batch-over (rw (lowered-each rigid up) at (down-over up)) b admitted room)
          ∙ sym (done-append s (downward is) (batch b ∷ []))

      pub parts-taken : AllTaken s (downward is ++ (batch b ∷ []))
      parts-taken = taken-append (down-taken up) (one-taken (batch-taken (down-over up) b admitted room) all-taken)

    -- all lines for as many others as a session holds
    pub change-of-all : length is ≡ length lines → (b : Batch) → Admitted b →
        length (lines_of b.numbers) ≤ most_lines → (changed_by s is b).judged ≡ fine
    change-of-all all b admitted few = change-taken b admitted (omega (arith, without-all-long up lines refl))

-- ---- any change

-- "a refused change is as if never offered": of any session, whatever is asked
given_back : (s : Session) (f : Fault) (r : Fed) (n : ℕ) → (unless_fault (refused_by s) f r).judged ≡ fault n →
    (f ≡ fine → r.judged ≡ fine) →
    (unless_fault (refused_by s) f r).session ≡ s
given_back s (fault m) r n e h = refl
given_back s fine r n e h = absurd (no-fault n (sym (h refl) ∙ e))

or-given-back : (s : Session) (r : Fed) (n : ℕ) → (or_given s r).judged ≡ fault n → (or_given s r).session ≡ s
or-given-back s r n e = given_back s r.judged r n e (λ h. h)

refused-by : (s : Session) (f : Fault) (r : Fed) (n : ℕ) →
    (unless_fault (refused_by s) f (or_given s r)).judged ≡ fault n →
    (unless_fault (refused_by s) f (or_given s r)).session ≡ s
refused-by s (fault m) r n e = refl
refused-by s fine r n e = or-given-back s r n e

pub refused-change : (s : Session) (is : List ℕ) (b : Batch) (n : ℕ) → (changed_by s is b).judged ≡ fault n →
    (changed_by s is b).session ≡ s
unfolding changed_as
refused-change s is b n e =
    let left = fresh_as s.wish s.limit (lowered_by is s.rigid) (without_all is (lines_in s)) (without_all is (origins_in s)) in
    refused-by s (change_fault s.count is) (then_fed left b.numbers b.brought) n e

-- what a batch tells that is fed to a session that was handed out: its own faults, and no other
module _ (s : Session) (h : Handed s) (b : Batch) where
  told-by : (f : Fault) → batch_fault s.count b.numbers b.brought ≡ f → (fed_by s b).judged ≡ f
  unfolding fed_with
  told-by (fault r) e = rw e refl
  told-by fine e =
      let passes = batch-passes s.count b e in
      batch-taken (over-own h) b passes.admitted (rw (count-is s h) passes.room)

  pub batch-told : (fed_by s b).judged ≡ batch_fault s.count b.numbers b.brought
  batch-told = told-by (batch_fault s.count b.numbers b.brought) refl

or-given-told : (s : Session) (r : Fed) → (or_given s r).judged ≡ r.judged
or-given-told s r = go r.judged refl
  where
    go : (f : Fault) → r.judged ≡ f → (unless_fault (refused_by s) f r).judged ≡ r.judged
    go fine e = refl
    go (fault n) e = sym e

-- a change whose indices are at fault
pub change-behind : (s : Session) (is : List ℕ) (b : Batch) (r : ℕ) → change_fault s.count is ≡ fault r →
    changed_by s is b ≡ refused_by s r
unfolding changed_as
change-behind s is b r e = rw e refl

module _ (s : Session) (h : Handed s) (is : List ℕ) where
  pub up_from : change_fault s.count is ≡ fine → Ascending (length (lines_in s)) 0 is
  unfolding change_fault
  up_from e = rw (count-is s h) (fine-ascending s.count 0 is (⊳-fine (must (leb s.count most_lines) 4) e).1)

  change-told-by : (b : Batch) (f : Fault) → change_fault s.count is ≡ f →
      (changed_by s is b).judged ≡ (f ⊳ batch_fault (length (without_all is (lines_in s))) b.numbers b.brought)
  change-told-by b (fault r) e = rw (change-behind s is b r e) refl
  change-told-by b fine e =
      let up = up_from e in
      let right = left-right (over-own h) is up in
      let t = fresh (over-own h) is up in
      rw (changed-fed (over-own h) is up b)
      (or-given-told s (fed_by t b) ∙ batch-told t right.over.handed b
      ∙ ap (λ (n : ℕ). batch_fault n b.numbers b.brought) (count-over right.over))

  -- 15 of its indices; then what a batch of the lines that are left tells: never 8 or 9
  pub change-told : (b : Batch) →
      (changed_by s is b).judged ≡ (change_fault s.count is ⊳ batch_fault (length (without_all is (lines_in s)))
      b.numbers b.brought)
  change-told b = change-told-by b (change_fault s.count is) refl

  handed-by : (r : Fed) → Handed r.session → (f : Fault) → Handed (unless_fault (refused_by s) f r).session
  handed-by r k fine = k
  handed-by r k (fault n) = h

  change-handed-by : (b : Batch) (f : Fault) → change_fault s.count is ≡ f → Handed (changed_by s is b).session
  change-handed-by b (fault r) e = rw (change-behind s is b r e) h
  change-handed-by b fine e =
      let up = up_from e in
      let right = left-right (over-own h) is up in
      let t = fresh (over-own h) is up in
      rw (changed-fed (over-own h) is up b)
      (handed-by (fed_by t b) (continues t right.over.handed b.numbers b.brought).handed
      ((fed_by t b).judged))

  pub change-handed : (b : Batch) → Handed (changed_by s is b).session
  change-handed b = change-handed-by b (change_fault s.count is) refl

-- ---- by origin: the indices found ascend, so that no change of them is refused with 15

lower-low : {count low : ℕ} {is : List ℕ} → Ascending count (low + 1) is → Ascending count low is
lower-low ascended = ascended
lower-low {low = low} (ascends {i = i} above below rest) = ascends {low = low} {i = i} (omega arith) below rest

found-more : (count n : ℕ) (b : Bool) {is : List ℕ} → n < count → Ascending count (n + 1) is →
    Ascending count n (index_if b n ++ is)
unfolding index_if when◌then◌else◌
found-more count n true h up = ascends {low = n} {i = n} (omega arith) h up
found-more count n false h up = lower-low up

found_from : (kind place count n : ℕ) (os : List Origin) → count ≡ n + length os →
    Ascending count n (indices_from kind place n os)
unfolding indices_from
found_from kind place count n [] e = ascended
found_from kind place count n (o ∷ os) e =
    found-more count n (is_of kind place o) (omega arith) (found_from kind place count (n + 1) os (omega arith))

pub found-ascends : (s : Session) → Handed s → (kind place : ℕ) → Ascending (length (lines_in s)) 0 (indices_of s kind place)
found-ascends s h kind place =
    let n : length (origins_in s) ≡ length (lines_in s) = origins-over (over-own h) in
    found_from kind place (length (lines_in s)) 0 (origins_in s) (omega arith)
