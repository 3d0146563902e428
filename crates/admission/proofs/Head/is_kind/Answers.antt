-- `admission::Head::is_kind` meets its contract. Assumes nothing.
use borrow.Author.Tests.{eq-eqb, ne_eqb}
use Rattle.admission.specs.Heads.{is_kind}
use Rattle.admission.proofs.Head.is_kind.Goals as goal

pub returns-then-kind-eq-CLOSED : goal.returns-then-kind-eq-CLOSED
unfolding is_kind
returns-then-kind-eq-CLOSED c = simp (eq-eqb _ _ c.if-kind-eq-CLOSED.true)

pub returns-else-kind-eq-CLOSED : goal.returns-else-kind-eq-CLOSED
unfolding is_kind
returns-else-kind-eq-CLOSED c = simp (ne_eqb _ _ c.if-kind-eq-CLOSED.false)
