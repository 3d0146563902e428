-- Lines taken back (02, T-13): a list that stands solving stands the same for every rigid count (`rigid-free`), so lines behind a
-- session that is solving, taken back in any order, leave it as it was but for the rigid count (`met-withdrawn`), which does not
-- depend on the order (`rigid-below`, `rigid-within`, `rigid-beyond`). Assumes nothing.
use Prim.Native.Nat.{ℕ, suc, ◌+◌, ◌-◌, ◌≤◌, ◌<◌}
use mathlib.Core.Path.{◌≡◌, refl, ◌∙◌, ap}
use mathlib.Core.Bool.{Bool, true, false}
use mathlib.Core.List.{List, [], ◌∷◌, ◌++◌, append-nil}
use native.Mathlib.Omega.{arith}
use native.Mathlib.Nat.{zero-add}
use lib.Dec.{ltb}
use lib.ListN.{length, length-append, take, drop}
use lib.Ieee.{Float}
use borrow.Author.Tests.{le-leb, ltb-true, ltb-false}
use Rattle.arithmetic.specs.Binary32.{0ᶠ, when◌then◌else◌}
use Rattle.common.specs.declared.Vec2.{Vec2}
use Rattle.lines.specs.declared.Line.{Line}
use Rattle.lines.specs.declared.Origin.{Origin}
use Rattle.lines.specs.Lines.{most_lines, lines_of}
use Rattle.one_line.specs.OneLine.{toward}
use Rattle.pass_2d.specs.Walk.{walk}
use Rattle.pass_2d.specs.Pass.{Pass, feasible, failed, refused, pass}
use Rattle.relaxation.specs.Relax.{Relaxed, relaxed, relax_refused, relax_line}
use Rattle.linear_programming.specs.Whole.{solving, rigid_failure, Failed, failed_line, stands, relaxed_outcome, after_pass, whole_list}
use Rattle.linear_programming.specs.Admit.{judged_list}
use Rattle.linear_programming.specs.Read.{phase_of, failed_of}
use Rattle.session.specs.declared.Session.{Session}
use Rattle.session.specs.Sessions.{lines_in, origins_in}
use Rattle.session.specs.Handed.{Handed}
use Rattle.session.specs.Withdrawals.{without, lowered}
use Rattle.session.proofs.WithdrawalWork.{without_fewer}
use Rattle.session.proofs.HandedLaws.{fault-free, count-is}
use Rattle.histories.specs.Cuts.{Batch, Admitted, arriving}
use Rattle.histories.specs.Histories.{batch, withdrawal, standing_after, standing_after_all, index_below, AllFit, no_more, and_then}
use Rattle.histories.specs.MetLines.{TakenBack, all_back, one-back, withdrawals, lowered_all, with_rigid, standing_in, BroughtBack}
use Rattle.histories.proofs.StandLaws.{over-own, batch-over}
use Rattle.histories.proofs.FreshLaws.{same-session, origins-over}
use Rattle.histories.proofs.ChangeLaws.{lowered-one, lowered_none}
use Rattle.histories.proofs.HistoryLaws.{each_stands, last-over}

-- ---- a list that stands solving stands the same for every rigid count

never-solving : (b : Bool) (k : ℕ) (p q : Vec2) (g f : Failed) (n m : ℕ) (w : Relaxed) →
    (when b then stands (rigid_failure k p) g n else relaxed_outcome g w) ≡ stands (solving q) f m → ⊥
unfolding when◌then◌else◌
never-solving true k p q g f n m w e = let z : ◌≡◌ {A = ℕ} 0 1 = cc in omega arith
never-solving false k p q g f n m (relaxed c d i) e = let z : ◌≡◌ {A = ℕ} 0 1 = cc in omega arith
never-solving false k p q g f n m (relax_refused r) e = let z : ◌≡◌ {A = ℕ} 0 1 = cc in omega arith

module _ (rigid other : ℕ) (limit : Float) (lines : List Line) {p : Vec2} {f : Failed} {n : ℕ} where
  after_free : (q : Pass) → after_pass rigid limit lines q ≡ stands (solving p) f n →
      after_pass other limit lines q ≡ stands (solving p) f n
  unfolding after_pass
  after_free (feasible c m) e = e
  after_free (failed g c m) e =
      absurd (never-solving (ltb g.index rigid) g.index c p (failed_line g) f m n
      (walk (relax_line rigid limit) (take g.index lines) (drop g.index lines) (relaxed c 0ᶠ m)) e)
  after_free (refused r) e = let z : ◌≡◌ {A = ℕ} 0 1 = cc in absurd (omega arith)

  pub rigid-free : (wish : Vec2) → whole_list rigid wish limit lines ≡ stands (solving p) f n →
      whole_list other wish limit lines ≡ stands (solving p) f n
  unfolding whole_list
  rigid-free wish e = after_free (pass (toward wish) limit lines) e

pub other-rigid : {s : Session} → Handed s → {p : Vec2} → phase_of s.phase ≡ solving p → (other : ℕ) →
    Handed (with_rigid s other)
unfolding judged_list
other-rigid {s} h {p} solves other =
    let free = fault-free s h in
    let stood : whole_list s.rigid s.wish s.limit (lines_in s)
    ≡ stands (solving p) (failed_of s.failed) s.probes = free.stood ∙ rw solves in
    record {
      size = h.size;
      origins-size = h.origins-size;
      fits = h.fits;
      blank = h.blank;
      blank-origins = h.blank-origins;
      stand =
          rw (count-is s h, le-leb s.count most_lines h.fits, free.wished, free.lined, solves)
          (rigid-free s.rigid other s.limit (lines_in s) s.wish stood);
    }

-- ---- one element behind the first ones taken out

without-behind : {A : Type 0} (l m : List A) (k : ℕ) → without (length l + k) (l ++ m) ≡ l ++ without k m
unfolding without
without-behind [] m k = rw zero-add
without-behind {A} (x ∷ l) m k =
    let e : length (x ∷ l) + k ≡ suc (length l + k) = omega arith in
    rw e (ap (λ (r : List A). x ∷ r) (without-behind l m k))

module _ {A : Type 0} (l m : List A) {c n i : ℕ} (base : length l ≡ c) (size : length m ≡ suc n) (low : c ≤ i)
    (high : i < c + suc n) where
  abbrev less : List A
  less = without (i - c) m

  less-long : length less ≡ n
  less-long = omega (arith, without_fewer (i - c) m (omega arith))

  out-behind : without i (l ++ m) ≡ l ++ less
  out-behind =
      let e : i ≡ length l + (i - c) = omega arith in
      ap (λ (k : ℕ). without k (l ++ m)) e ∙ without-behind l m (i - c)

-- ---- all of them, in any order

module _ (l : List Line) (o : List Origin) {c : ℕ} (base : length l ≡ c) (origins-base : length o ≡ c) where
  back_fits : {n : ℕ} {is : List ℕ} → TakenBack c n is → (m : List Line) → length m ≡ n → (os : List Origin) (rigid : ℕ) →
      AllFit (record { lines = l ++ m; origins = os; rigid = rigid }) (withdrawals is)
  back_fits all_back m size os rigid = no_more
  back_fits (one-back {n} {i} {is} low high rest) m size os rigid =
      and_then {o = withdrawal i} {os = withdrawals is} (index_below {g = record {
        lines = l ++ m;
        origins = os;
        rigid = rigid;
      }} {i = i} (omega (arith, length-append l m)))
      (rw (out-behind l m base size low high) (back_fits rest (less l m base size low high)
      (less-long l m base size low high) (without i os) (lowered i rigid)))

  back-stands : {n : ℕ} {is : List ℕ} → TakenBack c n is → (m : List Line) → length m ≡ n → (q : List Origin) →
      length q ≡ n → (rigid : ℕ) →
      standing_after_all (record { lines = l ++ m; origins = o ++ q; rigid = rigid }) (withdrawals is)
      ≡ record { lines = l; origins = o; rigid = lowered_all is rigid }
  back-stands all_back [] size [] long rigid = rw (append-nil l, append-nil o)
  back-stands all_back (x ∷ m) size q long rigid = absurd (omega arith)
  back-stands all_back [] size (x ∷ q) long rigid = absurd (omega arith)
  back-stands (one-back {n} {i} {is} low high rest) m size q long rigid =
      ap (λ (ls : List Line). standing_after_all (record {
        lines = ls;
        origins = without i (o ++ q);
        rigid = lowered i rigid;
      }) (withdrawals is)) (out-behind l m base size low high)
      ∙ ap (λ (os : List Origin). standing_after_all (record {
        lines = l ++ less l m base size low high;
        origins = os;
        rigid = lowered i rigid;
      }) (withdrawals is))
      (out-behind o q origins-base long low high)
      ∙ back-stands rest (less l m base size low high) (less-long l m base size low high)
      (less o q origins-base long low high) (less-long o q origins-base long low high) (lowered i rigid)

-- that the lines were strictly met is not needed: a withdrawal solves afresh
module _ {s : Session} (h : Handed s) {p : Vec2} (solves : phase_of s.phase ≡ solving p) (b : Batch) (admitted : Admitted b)
    (room : s.count + length (lines_of b.numbers) ≤ most_lines) where
  pub met-withdrawn : {is : List ℕ} → TakenBack s.count (length (lines_of b.numbers)) is → BroughtBack s b is
  met-withdrawn {is} back =
      let L = lines_of b.numbers in
      let base = count-is s h in
      let own = over-own h in
      let o = batch-over own b admitted (rw base room) in
      let origins-base : length (origins_in s) ≡ s.count = origins-over own ∙ base in
      let each : length (arriving b) ≡ length L =
      omega (arith, origins-over o, length-append (origins_in s) (arriving b), length-append (lines_in s) L) in
      let fit = back_fits (lines_in s) (origins_in s) base origins-base back L refl (origins_in s ++ arriving b) s.rigid in
      let g = standing_after (standing_in s) (batch b) in
      let last = rw (back-stands (lines_in s) (origins_in s) base origins-base back L refl (arriving b) each
      s.rigid) at (last-over s.wish s.limit {g = g} o fit) in
      record {
        each = each_stands s.wish s.limit {g = g} o fit;
        earlier = same-session last (over-own (other-rigid h solves (lowered_all is s.rigid)));
      }

-- ---- the rigid count afterwards, whatever the order

pub rigid-below : {c n : ℕ} {is : List ℕ} → TakenBack c n is → (rigid : ℕ) → rigid ≤ c → lowered_all is rigid ≡ rigid
rigid-below all_back rigid h = refl
rigid-below (one-back {i = i} low high rest) rigid h = rw (lowered_none i rigid (omega arith)) (rigid-below rest rigid h)

pub rigid-beyond : {c n : ℕ} {is : List ℕ} → TakenBack c n is → (rigid : ℕ) → c + n ≤ rigid → lowered_all is rigid ≡ rigid - n
rigid-beyond all_back rigid h = omega arith
rigid-beyond (one-back {i = i} low high rest) rigid h =
    rw (lowered-one i rigid (omega arith)) (rigid-beyond rest (rigid - 1) (omega arith) ∙ omega arith)

pub rigid-within : {c n : ℕ} {is : List ℕ} → TakenBack c n is → (rigid : ℕ) → c ≤ rigid → rigid ≤ c + n →
    lowered_all is rigid ≡ c
rigid-within all_back rigid low high = omega arith
rigid-within {c} (one-back {n} {i} {is} above below rest) rigid low high =
    go (λ r k m. rigid-within rest r k m) (ltb i rigid) refl
  where
    go : ((r : ℕ) → c ≤ r → r ≤ c + n → lowered_all is r ≡ c) → (b : Bool) → ltb i rigid ≡ b →
        lowered_all is (lowered i rigid) ≡ c
    go on true e = let k = ltb-true i rigid e in rw (lowered-one i rigid k) (on (rigid - 1) (omega arith) (omega arith))
    go on false e = let k = ltb-false i rigid e in rw (lowered_none i rigid k) (on rigid low (omega arith))
