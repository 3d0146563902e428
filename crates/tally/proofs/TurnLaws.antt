-- What a turn does with what was read is the tally's step, and what waits is what it leaves. Assumes nothing.
use Prim.Native.Nat.{ℕ, ◌+◌, ◌-◌, ◌≤◌}
use native.Mathlib.Omega.{arith}
use native.Mathlib.Nat.{sub-zero}
use mathlib.Core.Path.{◌≡◌, refl, sym, ap, ◌∙◌}
use mathlib.Core.List.{List}
use lib.ListN.{length, take}
use lib.Seq.{length-take-le}
use borrow.Rule.Slice.PartMut.{put_mid}
use Rattle.kept.specs.Kept.{Kept, kept, kept_over}
use Rattle.kept.proofs.KeptLaws.{kept_there, kept-stays}
use Rattle.answer_logs.specs.Logs.{most_records}
use Rattle.answer_logs.specs.Parts.{Wholes, reached, stopped, wholes_from}
use Rattle.answer_logs.proofs.CutLaws.{few-left}
use Rattle.std.specs.Prelude.{Ok, Err}
use Rattle.daily_tally.specs.declared.DayTally.{DayTally}
use Rattle.daily_tally.specs.declared.Progress.{Progress}
use Rattle.daily_tally.specs.declared.RefusedAt.{RefusedAt}
use Rattle.daily_tally.specs.Steps.{told_beside, Advance, going, stopped_at, progress, advance_of, advanced}
use Rattle.tally.specs.declared.Stage.TheVariants as stage
use Rattle.tally.specs.declared.Reading.{Reading}
use Rattle.tally.specs.Turns.{Turned, turned_of, held, ended_over, read_as, read_over, Follows, at-end, brought}

-- a step uses no more bytes than there are
used-by : (left place : ℕ) (s : List ℕ) (t : DayTally) (w : Wholes) → wholes_from left place s ≡ w →
    (progress 0 place t w).used ≤ length s
unfolding going stopped_at
used-by left place s t (reached l used) e = omega (arith, (few-left left place s e).0)
used-by left place s t (stopped n p) e = omega arith

used-within : (most place : ℕ) (s : List ℕ) (t : DayTally) → (advanced most s place t).used ≤ length s
unfolding advanced
used-within most place s t = used-by (most - place) place s t (wholes_from (most - place) place s) refl

module _ (input : List ℕ) (there : ℕ) (before : Reading) (fits : there ≤ length input) where
  unfoldable pub step : Advance
  step = advanced most_records (take (there - 0) input) before.place before.tally

  read_as_lem : (a : Advance) → a ≡ step → read_as input there a ≡ read_over input there before
  unfolding read_over step
  read_as_lem a e = ap (read_as input there) (rw sub-zero at e)

  pub refused-read : (r : RefusedAt) → advance_of (Err r) ≡ step → held (turned_of (stage.Ended (Err r))) input
      ≡ read_over input there before
  unfolding told_beside
  refused-read r e = read_as_lem (advance_of (Err r)) e

  pub whole-read : (p : Progress) → advance_of (Ok p) ≡ step → (k : ℕ) (out : List ℕ) → kept k out ≡ kept_over p.used there input →
      held (turned_of (stage.Open (record { kept = k; place = p.place; tally = p.tally }))) out ≡ read_over input there before
  unfolding step
  whole-read p e k out moved =
      let used : p.used ≤ there = omega (
        arith,
        ap (λ (x : Advance). x.used) e,
        used-within most_records before.place (take (there - 0) input) before.tally,
        ap (λ (n : ℕ). length (take n input)) (sub-zero there),
        length-take-le there input fits,
      ) in
      let m = moved ∙ kept_there p.used there input used fits in
      rw (ap (λ (x : Kept). x.count) m, ap (λ (x : Kept). x.contents) m) (read_as_lem (advance_of (Ok p)) e)

module _ (input part after : List ℕ) (before : Reading) (next : Turned) (h : before.kept ≤ length input) where
  -- what the input holds when something was read behind what is kept
  abbrev filled : List ℕ
  filled = put_mid before.kept (length input - before.kept) input part

  -- a read that met the end has left what was kept
  pub end_read : next ≡ ended_over (take (before.kept - 0) filled) before → Follows before input next after
  end_read e =
      at-end (e ∙ ap (λ (n : ℕ). ended_over (take n filled) before) (sub-zero before.kept)
      ∙ ap (λ (s : List ℕ). ended_over s before) (kept-stays before.kept input part h))

  pub some_read : (count : ℕ) → before.kept + count ≤ length filled →
      held next after ≡ read_over filled (before.kept + count) before → Follows before input next after
  some_read count fits e = brought filled (before.kept + count) (kept-stays before.kept input part h) (omega arith) fits e
