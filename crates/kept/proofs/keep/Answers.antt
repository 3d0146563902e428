-- `kept::keep` meets its contract. Assumes nothing.
use mathlib.Core.Path.{ap, ◌∙◌}
use borrow.Author.Tests.{lt-ltb, le-ltb}
use Rattle.arithmetic.specs.Binary32.{when◌then◌else◌}
use Rattle.kept.specs.Kept.{kept, kept_over}
use Rattle.kept.proofs.KeptLaws.{copied}
use Rattle.kept.proofs.keep.Goals as goal

pub returns-then-end-from : goal.returns-then-end-from
unfolding kept_over when◌then◌else◌
returns-then-end-from c = simp (lt-ltb _ _ c.if-end-from.true)

pub returns-then-buffer-end : goal.returns-then-buffer-end
unfolding kept_over when◌then◌else◌
returns-then-buffer-end c = simp (le-ltb _ _ c.if-end-from.false, lt-ltb _ _ c.if-buffer-end.true)

pub returns : goal.returns
unfolding kept_over when◌then◌else◌
returns c =
    rw (le-ltb _ _ c.if-end-from.false, le-ltb _ _ c.if-buffer-end.false) (ap (kept _) (c.copy_within.ensures.after ∙ copied c.args.from c.args.end c.args.buffer.now))
