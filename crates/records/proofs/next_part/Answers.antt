-- `records::next_part` meets its contract. Assumes nothing.
use borrow.Author.Tests.{lt-ltb, le-ltb}
use Rattle.arithmetic.specs.Binary32.{when◌then◌else◌}
use Rattle.records.specs.Parts.{part_in}
use Rattle.records.proofs.next_part.Goals as goal

pub returns-then-skip-gt0 : goal.returns-then-skip-gt0
unfolding part_in when◌then◌else◌
returns-then-skip-gt0 c = simp (← c.skipped.ensures, lt-ltb _ _ c.if-skip-gt0.true)

pub returns-then-rest-lt2 : goal.returns-then-rest-lt2
unfolding part_in when◌then◌else◌
returns-then-rest-lt2 c = simp (le-ltb 0 _ c.if-skip-gt0.false, lt-ltb _ 2 c.if-rest-lt2.true)

pub returns-then-length-gt-LONGEST_REST : goal.returns-then-length-gt-LONGEST_REST
unfolding part_in when◌then◌else◌
returns-then-length-gt-LONGEST_REST c = simp (
  le-ltb 0 _ c.if-skip-gt0.false,
  le-ltb _ 2 c.if-rest-lt2.false,
  ← c.pair_at-length.ensures,
  lt-ltb _ _ c.if-length-gt-LONGEST_REST.true,
)

pub returns-then-rest-length : goal.returns-then-rest-length
unfolding part_in when◌then◌else◌
returns-then-rest-length c = simp (
  le-ltb 0 _ c.if-skip-gt0.false,
  le-ltb _ 2 c.if-rest-lt2.false,
  ← c.pair_at-length.ensures,
  le-ltb _ _ c.if-length-gt-LONGEST_REST.false,
  lt-ltb _ _ c.if-rest-length.true,
)

pub returns : goal.returns
unfolding part_in when◌then◌else◌
returns c = simp (
  le-ltb 0 _ c.if-skip-gt0.false,
  le-ltb _ 2 c.if-rest-lt2.false,
  ← c.pair_at-length.ensures,
  le-ltb _ _ c.if-length-gt-LONGEST_REST.false,
  le-ltb _ _ c.if-rest-length.false,
)
