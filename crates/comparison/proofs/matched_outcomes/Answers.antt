-- `comparison::matched_outcomes` meets its contract. Assumes nothing.
use borrow.Author.Tests.{eq-eqb, ne_eqb}
use Rattle.comparison.specs.Agreeing.{matched_outcomes}
use Rattle.comparison.proofs.matched_outcomes.Goals as goal

pub returns-then-ours-theirs : goal.returns-then-ours-theirs
unfolding matched_outcomes
returns-then-ours-theirs c = simp (ne_eqb _ _ c.if-ours-theirs.true)

pub returns-then-not-same_number : goal.returns-then-not-same_number
unfolding matched_outcomes
returns-then-not-same_number c = simp (
  c.if-not-same_number.true,
  ← c.same_number.ensures,
  eq-eqb _ _ c.if-ours-theirs.false,
)

pub returns-then-not-same_number-2 : goal.returns-then-not-same_number-2
unfolding matched_outcomes
returns-then-not-same_number-2 c = simp (
  c.if-not-same_number-2.true,
  ← c.same_number-2.ensures,
  c.if-not-same_number.false,
  ← c.same_number.ensures,
  eq-eqb _ _ c.if-ours-theirs.false,
)

pub returns-then-ours-theirs-2 : goal.returns-then-ours-theirs-2
unfolding matched_outcomes
returns-then-ours-theirs-2 c =
    simp (
      ne_eqb _ _ c.if-ours-theirs-2.true,
      c.if-not-same_number-2.false,
      ← c.same_number-2.ensures,
      c.if-not-same_number.false,
      ← c.same_number.ensures,
      eq-eqb _ _ c.if-ours-theirs.false,
    )

pub returns-then-ours-theirs-3 : goal.returns-then-ours-theirs-3
unfolding matched_outcomes
returns-then-ours-theirs-3 c =
    simp (
      ne_eqb _ _ c.if-ours-theirs-3.true,
      eq-eqb _ _ c.if-ours-theirs-2.false,
      c.if-not-same_number-2.false,
      ← c.same_number-2.ensures,
      c.if-not-same_number.false,
      ← c.same_number.ensures,
      eq-eqb _ _ c.if-ours-theirs.false,
    )

pub returns : goal.returns
unfolding matched_outcomes
returns c =
    simp (
      eq-eqb _ _ c.if-ours-theirs-3.false,
      eq-eqb _ _ c.if-ours-theirs-2.false,
      c.if-not-same_number-2.false,
      ← c.same_number-2.ensures,
      c.if-not-same_number.false,
      ← c.same_number.ensures,
      eq-eqb _ _ c.if-ours-theirs.false,
    )
