-- `log_walks::walk` meets its contract. Assumes nothing.
use Rattle.std.proofs.Common.{rules, arith}
use Rattle.log_walks.proofs.WalkLaws.{begins, goes_on, stops, ends, goes_through, passed-told}
use Rattle.log_walks.proofs.walk.Goals as goal

pub loop-init : goal.loop-init
loop-init c = begins _ _

pub returns-in_err-behind : goal.returns-in_err-behind
returns-in_err-behind c =
    rw (← stops c.loop.invariant c.loop-test.true _ (passed-told c.record_at.result c.in_err-behind.ensures c.record_at.ensures)) (search rules)

pub returns-in_default : goal.returns-in_default
returns-in_default c =
    ends c.loop.invariant c.loop-test.true (passed-told c.record_at.result (rw c.in_default.is at c.in_ok-behind.ensures) c.record_at.ensures)

pub overflow_add-met : goal.overflow_add-met
overflow_add-met c =
    omega (
      arith,
      (goes_on c.loop.invariant c.loop-test.true _ _
          (passed-told c.record_at.result (rw c.in-Some.is at c.in_ok-behind.ensures) c.record_at.ensures)).few,
    )

pub loop-preserved : goal.loop-preserved
loop-preserved c =
    goes_on c.loop.invariant c.loop-test.true _ _ (passed-told c.record_at.result (rw c.in-Some.is at c.in_ok-behind.ensures) c.record_at.ensures)

pub returns : goal.returns
returns c = goes_through c.loop.invariant c.loop-test.false
