-- What a turn of a build does with what was read is the library's step, and what waits is what it leaves. Assumes
-- nothing.
use Prim.Native.Nat.{ℕ, ◌+◌, ◌-◌, ◌≤◌, ◌<◌}
use native.Mathlib.Omega.{arith}
use native.Mathlib.Nat.{sub-zero}
use mathlib.Core.Path.{◌≡◌, sym, ap, ◌∙◌}
use mathlib.Core.List.{List}
use lib.ListN.{length, take}
use lib.Seq.{length-take-le}
use borrow.Rule.Slice.PartMut.{put_mid}
use Rattle.std.specs.Prelude.{Result, Ok, Err}
use Rattle.admission.specs.declared.refusal.Refusal.{Refusal}
use Rattle.admission.specs.Refusals.{number_of}
use Rattle.kept.specs.Kept.{Kept, kept, shifted, kept_over}
use Rattle.kept.proofs.KeptLaws.{kept_there, kept-stays}
use Rattle.index_building.specs.declared.PartBuilt.{PartBuilt}
use Rattle.index_building.specs.Indexes.{standing}
use Rattle.index_building.specs.Builds.{part_over}
use Rattle.index_building.proofs.BuildLaws.{Within, part-within}
use Rattle.fallbacks.specs.declared.Stage.TheVariants as stage
use Rattle.fallbacks.specs.declared.Reading.{Reading}
use Rattle.fallbacks.specs.Turns.{held, staged, went_on, read_as, read_over, Steps, Follows, at-end, brought}

module _ (input : List ℕ) (there : ℕ) (entries : List ℕ) (before : Reading) (fits : there ≤ length input) where
  -- what the step over the bytes that are there tells, and what it leaves in the entries' buffer
  module _ (told : Result PartBuilt ℕ) (out : List ℕ) (e : standing told out
      ≡ part_over (take (there - 0) input) before.extent entries) where
    read_as_lem : read_over input there entries before ≡ went_on input there before out told
    unfolding read_over
    read_as_lem = ap (read_as input there before) (sym (rw sub-zero at e))

  pub refused-step : (r : Refusal) (out : List ℕ) → standing (Err (number_of r)) out
      ≡ part_over (take (there - 0) input) before.extent entries →
      held (staged (stage.Refused r) before) input out ≡ read_over input there entries before
  refused-step r out e = sym (read_as_lem (Err (number_of r)) out e)

  module _ (p : PartBuilt) (out : List ℕ)
      (e : standing (Ok p) out ≡ part_over (take (there - 0) input) before.extent entries) where
    within : Within (take there input) out p.used p.written
    within = part-within (take there input) before.extent entries p.used p.written p.extent out (rw sub-zero at e)

    size : length (take there input) ≡ there
    size = length-take-le there input fits

    pub entries-there : p.written ≤ length out
    entries-there = within.within-buffer

    module _ (k : ℕ) (rest : List ℕ) (moved : kept k rest ≡ kept_over p.used there input) where
      here : kept k rest ≡ kept (there - p.used) (shifted p.used (there - p.used) input)
      here = moved ∙ kept_there p.used there input (omega (arith, within.within-part, size)) fits

      pub whole-step : held (record { stage = stage.Open; kept = k; extent = p.extent }) rest out
          ≡ read_over input there entries before
      whole-step = rw (ap (λ (x : Kept). x.count) here, ap (λ (x : Kept). x.contents) here)
          (sym (read_as_lem (Ok p) out e))

      -- a record cut short at most
      pub few-wait : k < 18
      few-wait = omega (arith, ap (λ (x : Kept). x.count) here, within.few-left, within.within-part, size)

module _ (input part entries after written : List ℕ) (before next : Reading) (h : before.kept ≤ length input) where
  -- what the input holds when something was read behind what is kept
  abbrev filled : List ℕ
  filled = put_mid before.kept (length input - before.kept) input part

  -- a read that met the end has left what was kept
  pub end_read : next ≡ staged stage.AtEnd before → after ≡ filled → Follows before input entries next after written
  end_read e f = at-end e (ap (take before.kept) f ∙ kept-stays before.kept input part h)

  pub some_read : (count : ℕ) → before.kept + count ≤ length filled →
      Steps before filled (before.kept + count) entries next after written →
      Follows before input entries next after written
  some_read count fits e = brought filled (before.kept + count) (kept-stays before.kept input part h) (omega arith) fits e
