-- 02, T-06: sessions that differ only in origins end alike in all else, after a batch, a withdrawal, a change and any
-- history (`origins-alike`, `withdrawal-alike`, `change-alike`, `all_alike`), and at each index the origin kept is the
-- one that the line arrived with (`origins-kept`). Assumes nothing.
use Prim.Native.Nat.{ℕ, ◌+◌, ◌<◌}
use mathlib.Core.Path.{◌≡◌, refl, sym, ◌∙◌, ap}
use mathlib.Core.Bool.{Bool, true, false}
use mathlib.Core.List.{List, ◌++◌}
use native.Mathlib.Omega.{arith}
use lib.Dec.{ltb}
use lib.ListN.{length, get_or, get_or-append}
use lib.Seq.{get_or-append-add, length-take-le}
use lib.Ieee.{Float}
use borrow.Author.Tests.{ltb-true}
use Rattle.admission.specs.Faults.{Fault, fine, fault}
use Rattle.common.specs.declared.Vec2.{Vec2}
use Rattle.lines.specs.declared.Line.{Line}
use Rattle.lines.specs.declared.Origin.{Origin}
use Rattle.lines.specs.Lines.{lines_of}
use Rattle.lines.specs.Origins.{unknown, origins_of}
use Rattle.linear_programming.specs.Whole.{Outcome, stands, refusal}
use Rattle.linear_programming.specs.Admit.{◌⟫◌}
use Rattle.session.specs.declared.Session.{Session}
use Rattle.session.specs.Calls.{Fed}
use Rattle.session.specs.Sessions.{origins_in}
use Rattle.session.specs.Batches.{origins_for, origins_fault, batch_fault, settled, worked, fed_with}
use Rattle.session.specs.Handed.{Handed}
use Rattle.session.specs.Withdrawals.{or_given, withdrawn_as}
use Rattle.session.specs.Changes.{changed_as, change_fault}
use Rattle.session.proofs.StoreLaws.{origins-each}
use Rattle.session.proofs.HandedLaws.{continues}
use Rattle.histories.specs.Cuts.{Batch, fed_by, arriving}
use Rattle.histories.specs.Histories.{Operation, changed_by, done_all}
use Rattle.histories.specs.Alike.{labelled, Alike, alike, Theirs, SameLines, no_call, batch-each, withdrawal-each, change-each}
use Rattle.histories.proofs.StandLaws.{StandsOver, over-own}
use Rattle.histories.proofs.FreshLaws.{count-over, same-but-origins, withdrawn-taken, withdrawn-over, withdrawn-behind, withdrawn-handed}
use Rattle.histories.proofs.ChangeLaws.{left-right, changed-fed, change-behind, up_from, change-handed}

-- ---- alike in all else

-- judged the same, and the sessions differ only in origins
pub record AlikeFed (r q : Fed) : Type 0 where
  pub judged-same : r.judged ≡ q.judged
  pub sessions : Alike r.session q.session

settled-alike : (s : Session) (qs : List Origin) (m : List Line) (os ps : List ℕ) (o : Outcome) →
    AlikeFed (settled s m os o) (settled (labelled qs s) m ps o)
settled-alike s qs m os ps (stands ph f n) = record { judged-same = refl; sessions = alike _ }
settled-alike s qs m os ps (refusal r) = record { judged-same = refl; sessions = alike qs }

-- batches with the same lines and any origins, none or three numbers a line
module _ (xs : List Float) (os ps : List ℕ) (theirs : origins_fault (length (lines_of xs)) os
    ≡ fine) (others : origins_fault (length (lines_of xs)) ps ≡ fine) where
  same-fault : (n : ℕ) → batch_fault n xs os ≡ batch_fault n xs ps
  unfolding batch_fault
  same-fault n = rw (theirs, others)

  same-work : (s : Session) (qs : List Origin) → worked (labelled qs s) (lines_of xs) ≡ worked s (lines_of xs)
  unfolding worked
  same-work s qs = refl

  -- "Two sessions that differ only in origins end alike in all else."
  pub origins-alike : {s t : Session} → Alike s t → AlikeFed (fed_with s xs os) (fed_with t xs ps)
  unfolding fed_with
  origins-alike (alike {s} qs) =
      rw (← same-fault s.count, same-work s qs)
      (settled-alike s qs (lines_of xs) os ps (batch_fault s.count xs os ⟫ worked s (lines_of xs)))

alike-by : {s t : Session} (b c : Batch) → b.numbers ≡ c.numbers → Theirs b → Theirs c → Alike s t →
    AlikeFed (fed_by s b) (fed_by t c)
alike-by b c e theirs others a = rw (← e) (origins-alike b.numbers b.brought c.brought theirs (rw e others) a)

-- ---- a line taken back

alike-to : {s t : Session} (os : List Origin) → labelled os s ≡ t → Alike s t
alike-to os e = rw (← e) (alike os)

-- sessions that were handed out over the same lines
pub over-alike : {s t : Session} {rigid : ℕ} {wish : Vec2} {limit : Float} {lines : List Line} {os ps : List Origin} →
    StandsOver s rigid wish limit lines os → StandsOver t rigid wish limit lines ps → Alike s t
over-alike {t = t} o p = alike-to t.origins (same-but-origins o p refl)

pub withdrawal-alike : {s t : Session} → Handed s → Handed t → Alike s t → (i : ℕ) →
    AlikeFed (withdrawn_as s i) (withdrawn_as t i)
withdrawal-alike h k (alike {s} qs) i = go (ltb i s.count) refl
  where
    go : (b : Bool) → ltb i s.count ≡ b → AlikeFed (withdrawn_as s i) (withdrawn_as (labelled qs s) i)
    go true e =
        let below = ltb-true i s.count e in
        let o = over-own h in
        let p = over-own k in
        let n = count-over o in
        record {
          judged-same = withdrawn-taken o i (omega arith) ∙ sym (withdrawn-taken p i (omega arith));
          sessions = over-alike (withdrawn-over o i (omega arith)) (withdrawn-over p i (omega arith));
        }
    go false e = rw (withdrawn-behind s h i e, withdrawn-behind (labelled qs s) k i e) (record {
      judged-same = refl;
      sessions = alike qs;
    })

-- ---- a change

given-alike : {s t : Session} {r q : Fed} → AlikeFed r q → Alike s t → AlikeFed (or_given s r) (or_given t q)
given-alike {s} {t} {r} {q} a p = go r.judged refl
  where
    go : (f : Fault) → r.judged ≡ f → AlikeFed (or_given s r) (or_given t q)
    go fine e = rw (e, sym a.judged-same ∙ e) (record { judged-same = refl; sessions = a.sessions })
    go (fault n) e = rw (e, sym a.judged-same ∙ e) (record { judged-same = refl; sessions = p })

pub change-alike : {s t : Session} → Handed s → Handed t → Alike s t → (is : List ℕ) (b c : Batch) →
    b.numbers ≡ c.numbers → Theirs b → Theirs c →
    AlikeFed (changed_by s is b) (changed_by t is c)
change-alike h k (alike {s} qs) is b c same theirs others = go (change_fault s.count is) refl
  where
    go : (f : Fault) → change_fault s.count is ≡ f → AlikeFed (changed_by s is b) (changed_by (labelled qs s) is c)
    go (fault r) e = rw (change-behind s is b r e, change-behind (labelled qs s) is c r e) (record {
      judged-same = refl;
      sessions = alike qs;
    })
    go fine e =
        let up = up_from s h is e in
        let o = over-own h in
        let p = over-own k in
        rw (changed-fed o is up b, changed-fed p is up c)
        (given-alike (alike-by b c same theirs others
        (over-alike (left-right o is up).over (left-right p is up).over)) (alike qs))

-- ---- any calls, one after the other

pub all_alike : {s t : Session} {os ps : List Operation} → Handed s → Handed t → Alike s t → SameLines os ps →
    Alike (done_all s os) (done_all t ps)
all_alike {s = s} {t = t} h k a no_call = a
all_alike {s = s} {t = t} h k a (batch-each {b} {c} e theirs others same) =
    all_alike {s = (fed_with s b.numbers b.brought).session} {t = (fed_with t c.numbers c.brought).session}
    (continues s h b.numbers b.brought).handed (continues t k c.numbers c.brought).handed
    (alike-by b c e theirs others a).sessions same
all_alike {s = s} {t = t} h k a (withdrawal-each {i} same) =
    all_alike {s = (withdrawn_as s i).session} {t = (withdrawn_as t i).session} (withdrawn-handed s h i) (withdrawn-handed t k i) (withdrawal-alike h k a i).sessions same
all_alike {s = s} {t = t} h k a (change-each {is} {b} {c} e theirs others same) =
    all_alike {s = (changed_as s is b.numbers b.brought).session} {t = (changed_as t is c.numbers c.brought).session}
    (change-handed s h is b) (change-handed t k is c) (change-alike h k a is b c e theirs others).sessions same

-- ---- each line's own

-- "At each index the origin kept is the one the line arrived with": a batch that is taken leaves those of the lines
-- before it, and behind them stand those that its own lines arrived with
module _ (s : Session) (h : Handed s) (b : Batch) (taken : (fed_by s b).judged ≡ fine) where
  kept-all : origins_in (fed_by s b).session ≡ origins_in s ++ arriving b
  kept-all = (continues s h b.numbers b.brought).remembers taken

  count-is : length (origins_in s) ≡ s.count
  count-is = length-take-le s.count s.origins (omega (arith, h.origins-size, h.fits))

  pub origin-stays : (i : ℕ) → i < s.count → get_or (origins_in (fed_by s b).session) i unknown ≡ get_or (origins_in s) i unknown
  origin-stays i before = rw kept-all (get_or-append (origins_in s) (arriving b) unknown i (rw count-is before))

  pub origins-kept : (i : ℕ) → get_or (origins_in (fed_by s b).session) (s.count + i) unknown ≡ get_or (arriving b) i unknown
  origins-kept i =
      let k : s.count + i ≡ length (origins_in s) + i = ap (λ (n : ℕ). n + i) (sym count-is) in
      rw (kept-all, k) (get_or-append-add (origins_in s) (arriving b) i unknown)

-- "kept as they stand": the numbers that are brought for line i of a batch are its origin; without them it is unknown
pub brought-kept : (n i : ℕ) (os : List ℕ) → i < n → get_or (origins_for n os) i unknown ≡ get_or (origins_of os) i unknown
brought-kept n i os h = sym (origins-each n i os h)
