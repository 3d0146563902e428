-- A batch hands a session on: what it tells is what the single call over all lines tells, and a refused batch leaves it
-- as it was. Assumes nothing.
use Rattle.std.proofs.Common.{◌≡◌, ℕ, ◌+◌, ◌%◌, ◌^◌, ◌≤◌, true, leb, List, ◌++◌, length, take, drop, sym, refl, ap, ◌∙◌, mod-eq_of_lt, arith, length-append, length-take-le, le-leb}
use lib.Seq.{sets, length-sets}
use lib.Ieee.{Float}
use Rattle.lines.specs.declared.Line.{Line}
use Rattle.lines.specs.declared.Origin.{Origin}
use Rattle.lines.specs.Lines.{most_lines, lines_of}
use Rattle.lines.specs.LineFaults.{lines_fault}
use Rattle.linear_programming.specs.Whole.{Phase, Failed, Outcome, stands, refusal, whole_list}
use Rattle.admission.specs.Faults.{Fault, fine, fault, must, ◌⊳◌}
use Rattle.linear_programming.specs.Admit.{◌⟫◌, fours, wish_fault, judged_list}
use Rattle.linear_programming.specs.Read.{phase_of, failed_of}
use Rattle.linear_programming.specs.Resume.{resumed, add_probes}
use Rattle.admission.proofs.FaultLaws.{no-fault, ⊳-fine, must-fine}
use Rattle.lines.proofs.JudgeLaws.{faults-append}
use Rattle.linear_programming.proofs.JudgeLaws.{⟫-assoc, ⟫-stands}
use Rattle.linear_programming.proofs.Agreement.{phase-there, failed-there}
use Rattle.linear_programming.proofs.ResumeLaws.{resumed-whole}
use Rattle.linear_programming.proofs.WholeProbes.{whole-fits}
use Rattle.session.specs.declared.Session.{Session}
use Rattle.session.specs.Calls.{Fed}
use Rattle.session.specs.Sessions.{lines_in, origins_in, outcome_in, blank_lines, blank_origins}
use Rattle.session.specs.Batches.{origins_for, fitting, origins_fault, batch_fault, settled, worked, fed_with}
use Rattle.session.specs.Handed.{Handed, told_by, ContinuesWith}
use Rattle.session.proofs.StoreLaws.{origins-many}
use Rattle.session.proofs.BatchWork.{take-stored, drop-stored, batch-fits}

module _ (s : Session) (h : Handed s) where
  -- what was judged of the lines that stand
  pub record FaultFree : Type 0 where
    pub wished : wish_fault s.wish s.limit ≡ fine
    pub lined : lines_fault (lines_in s) ≡ fine
    pub stood : whole_list s.rigid s.wish s.limit (lines_in s) ≡ outcome_in s

  pub fault-free : FaultFree
  unfolding judged_list
  fault-free =
      let passed = ⟫-stands (must (leb (length (lines_in s)) most_lines) 4 ⊳ wish_fault s.wish s.limit ⊳ lines_fault
      (lines_in s)) h.stand in
      let few = ⊳-fine (must (leb (length (lines_in s)) most_lines) 4) passed.0 in
      let faults = ⊳-fine (wish_fault s.wish s.limit) few.1 in
      record { wished = faults.0; lined = faults.1; stood = passed.1 }

  pub count-is : length (lines_in s) ≡ s.count
  count-is = length-take-le s.count s.lines (omega (arith, h.size, h.fits))

  -- the faults of a batch are those of all lines
  all-judged : (xs : List Float) (os : List ℕ) →
      (fours xs ⟫ (origins_fault (length (lines_of xs)) os ⟫ judged_list s.rigid s.wish s.limit (lines_in s ++ lines_of xs)))
      ≡ (batch_fault s.count xs os ⟫ whole_list s.rigid s.wish s.limit (lines_in s ++ lines_of xs))
  unfolding judged_list batch_fault
  all-judged xs os =
      let theirs = origins_fault (length (lines_of xs)) os in
      let rest = must (leb (s.count + length (lines_of xs)) most_lines) 4 ⊳ lines_fault (lines_of xs) in
      rw (
        length-append (lines_in s) (lines_of xs),
        faults-append,
        fault-free.wished,
        fault-free.lined,
        count-is,
        le-leb s.count most_lines h.fits,
      )
      (sym (⟫-assoc (fours xs) (theirs ⊳ rest) _ ∙ ap (λ (o : Outcome). fours xs ⟫ o) (⟫-assoc theirs rest _)))

  -- the solve over the new lines, the probes before added, is the whole-list rules over all lines
  solved-on : (m : List Line) → add_probes s.probes (worked s m) ≡ whole_list s.rigid s.wish s.limit (lines_in s ++ m)
  unfolding worked
  solved-on m =
      ap (λ (k : ℕ). add_probes s.probes (resumed s.rigid s.wish s.limit (lines_in s ++ m) k
      (phase_of s.phase) (failed_of s.failed))) (sym count-is)
      ∙ resumed-whole s.rigid s.wish s.limit (lines_in s) m fault-free.stood

  module _ (m : List Line) (os : List ℕ) (room : s.count + length m ≤ most_lines) where
    all-few : length (lines_in s ++ m) ≤ most_lines
    all-few = rw (length-append, count-is) room

    -- no total comes round
    total : (ph : Phase) (f : Failed) (n : ℕ) → worked s m ≡ stands ph f n → (s.probes + n) % 2 ^ 32 ≡ s.probes + n
    total ph f n e =
        let w : whole_list s.rigid s.wish s.limit (lines_in s ++ m) ≡ stands ph f (s.probes + n) =
        sym (solved-on m) ∙ ap (add_probes s.probes) e in
        mod-eq_of_lt (omega (arith, whole-fits s.rigid s.wish s.limit (lines_in s ++ m) all-few w))

    settled-tells : (o : Outcome) → worked s m ≡ o → told_by (settled s m os o) ≡ add_probes s.probes o
    settled-tells (stands ph f n) e = rw (phase-there ph, failed-there f, total ph f n e)
    settled-tells (refusal r) e = refl

    -- the new session's lines and origins, and the blank places behind them
    lines-on : take (s.count + length m) (sets s.lines s.count m) ≡ lines_in s ++ m
    lines-on = take-stored s.lines m s.count (length m) refl (omega (arith, h.size))

    lines-blank : drop (s.count + length m) (sets s.lines s.count m) ≡ drop (s.count + length m) blank_lines
    lines-blank = drop-stored s.lines m s.count (length m) refl (omega (arith, h.size)) blank_lines h.blank

    module _ (theirs : fitting (length os) (length m) ≡ true) where
      abbrev own : List Origin
      own = origins_for (length m) os

      origins-on : take (s.count + length m) (sets s.origins s.count own) ≡ origins_in s ++ own
      origins-on = take-stored s.origins own s.count (length m) (origins-many (length m) os theirs)
          (omega (arith, h.origins-size))

      origins-blank : drop (s.count + length m) (sets s.origins s.count own) ≡ drop (s.count + length m) blank_origins
      origins-blank = drop-stored s.origins own s.count (length m) (origins-many (length m) os theirs)
          (omega (arith, h.origins-size)) blank_origins h.blank-origins

  -- ---- a batch hands the session on

  module _ (xs : List Float) (os : List ℕ) where
    abbrev L : List Line
    L = lines_of xs

    abbrev after : List Line
    after = lines_in s ++ lines_of xs

    -- what the single call over all lines tells
    abbrev all_told : Outcome
    all_told = fours xs ⟫ (origins_fault (length L) os ⟫ judged_list s.rigid s.wish s.limit after)

    whole-told : batch_fault s.count xs os ≡ fine → judged_list s.rigid s.wish s.limit after
        ≡ add_probes s.probes (worked s L)
    whole-told e =
        let f = batch-fits s.count xs os e in
        (rw (f.whole-lines, f.theirs, e) at (all-judged xs os)) ∙ sym (solved-on L)

    refused-on : (r : ℕ) → refusal r ≡ all_told → ContinuesWith s xs os (settled s L os (refusal r))
    refused-on r e = record {
      handed = h;
      tells = e;
      grows = λ z. absurd (no-fault r (sym z));
      remembers = λ z. absurd (no-fault r (sym z));
      aims = (refl, refl, refl);
      untouched = λ k z. refl;
    }

    stands_on : batch_fault s.count xs os ≡ fine → (o : Outcome) → worked s L ≡ o → ContinuesWith s xs os (settled s L os o)
    stands_on e (refusal r) w = refused-on r (sym (all-judged xs os ∙ rw (e, ← solved-on L, w)))
    stands_on e (stands ph f n) w =
        let fitted = batch-fits s.count xs os e in
        let room = fitted.room in
        let theirs = must-fine (fitting (length os) (length L)) 2 fitted.theirs in
        let whole : judged_list s.rigid s.wish s.limit after ≡ stands ph f (s.probes + n) = whole-told e
        ∙ ap (add_probes s.probes) w in
        record {
          handed = record {
            size = length-sets s.lines s.count L ∙ h.size;
            origins-size = length-sets s.origins s.count (origins_for (length L) os) ∙ h.origins-size;
            fits = room;
            blank = lines-blank L os room;
            blank-origins = origins-blank L os room theirs;
            stand = rw (lines-on L os room, phase-there ph, failed-there f, total L os room ph f n w) whole;
          };
          tells = settled-tells L os room (stands ph f n) w ∙ sym (all-judged xs os ∙ rw (e, ← solved-on L, w));
          grows = λ _. lines-on L os room;
          remembers = λ _. origins-on L os room theirs;
          aims = (refl, refl, refl);
          untouched = λ k z. absurd (no-fault k z);
        }

    judged-on : (f : Fault) → batch_fault s.count xs os ≡ f → ContinuesWith s xs os (settled s L os (f ⟫ worked s L))
    judged-on fine e = stands_on e (worked s L) refl
    judged-on (fault r) e = refused-on r (sym (all-judged xs os ∙ rw e))

    pub continues : ContinuesWith s xs os (fed_with s xs os)
    unfolding fed_with
    continues = judged-on (batch_fault s.count xs os) refl

-- as the contracts of `batch_with_origins` and `batch` say it
pub continues-by : (s : Session) (xs : List Float) (os : List ℕ) (r : Fed) → r ≡ fed_with s xs os → (r ≡ fed_with s xs os)
    × (Handed s → ContinuesWith s xs os r)
continues-by s xs os r e = (e, λ h. rw e (continues s h xs os))
