-- `session::Session::change_origin` meets its contract. Assumes nothing.
use Rattle.std.proofs.Common.{leb, sym, arith, leb-true}
use Rattle.std.proofs.lemmas.Result.{err_from_is_err_and}
use Rattle.admission.proofs.FaultLaws.{must-fine}
use Rattle.lines.specs.Lines.{most_lines}
use Rattle.session.specs.Changes.{change_fault, changed_as, origin_changed_as}
use Rattle.session.proofs.ChangeWork.{origin-right}
use Rattle.session.proofs.Session.change_origin.Goals as goal

pub returns-in_err-unless : goal.returns-in_err-unless
unfolding origin_changed_as changed_as change_fault
returns-in_err-unless c =
    let p = err_from_is_err_and c.from_residual.result c.from_residual.ensures.1 in
    rw (p.1, p.2, ← c.in_err-unless.ensures)

pub returns-in_err-change : goal.returns-in_err-change
returns-in_err-change c =
    let a = c.args in
    let few = leb-true _ _ (must-fine (leb a.self.now.count most_lines) 4 (sym c.in_ok-unless.ensures)) in
    let r = c.from_residual-in_err-change in
    let p = err_from_is_err_and r.result r.ensures.1 in
    rw (
      p.1,
      p.2,
      origin-right a.self.now a.kind a.place a.numbers.now a.origins.now c.find-n.new.found c.find-n.result (omega arith) c.find-n.ensures.found,
      ← c.in_err-change.ensures,
    )

pub returns : goal.returns
returns c =
    let a = c.args in
    let few = leb-true _ _ (must-fine (leb a.self.now.count most_lines) 4 (sym c.in_ok-unless.ensures)) in
    rw (
      origin-right a.self.now a.kind a.place a.numbers.now a.origins.now c.find-n.new.found c.find-n.result (omega arith) c.find-n.ensures.found,
      ← c.in_ok-change.ensures,
    )
