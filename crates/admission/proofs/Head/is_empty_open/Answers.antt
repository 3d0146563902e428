-- `admission::Head::is_empty_open` meets its contract. Assumes nothing.
use borrow.Author.Tests.{eq-eqb, ne_eqb}
use Rattle.admission.specs.Heads.{is_empty_open}
use Rattle.admission.proofs.Head.is_empty_open.Goals as goal

pub returns-then-kind-eq-OPEN : goal.returns-then-kind-eq-OPEN
unfolding is_empty_open
returns-then-kind-eq-OPEN c = simp (eq-eqb _ _ c.if-kind-eq-OPEN.true)

pub returns-else-kind-eq-OPEN : goal.returns-else-kind-eq-OPEN
unfolding is_empty_open
returns-else-kind-eq-OPEN c = simp (ne_eqb _ _ c.if-kind-eq-OPEN.false)
