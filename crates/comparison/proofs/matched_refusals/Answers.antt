-- `comparison::matched_refusals` meets its contract. Assumes nothing.
use borrow.Author.Tests.{eq-eqb, ne_eqb}
use Rattle.comparison.specs.Agreeing.{matched_refusals}
use Rattle.comparison.proofs.matched_refusals.Goals as goal

pub returns-then-ours-theirs : goal.returns-then-ours-theirs
unfolding matched_refusals
returns-then-ours-theirs c = simp (ne_eqb _ _ c.if-ours-theirs.true)

pub returns : goal.returns
unfolding matched_refusals
returns c = simp (eq-eqb _ _ c.if-ours-theirs.false)
