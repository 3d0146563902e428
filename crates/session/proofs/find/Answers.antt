use Rattle.std.proofs.Common.{take, arith, sym, ◌∙◌}
use Rattle.session.proofs.ChangeWork.{found-next, found-not, found_all}
use Rattle.session.proofs.find.Goals as goal
use Rattle.session.proofs.find.Goals.{then-is_of, else-is_of}

pub loop-i-preserved : goal.loop-i-preserved
loop-i-preserved c =
    let l = c.loop-i in
    let a = c.args in
    elim c.if-is_of.branch [
      | then-is_of h ↦ rw (h.n-is, h.found-is) (
        omega arith,
        found-next a.kind a.place a.origins.now l.i (omega arith) (sym h.if-is_of.true ∙ c.is_of.ensures) _ l.found l.n (omega arith) l.invariant.1,
      )
      | else-is_of h ↦ rw (h.n-is, h.found-is) (
        omega arith,
        found-not a.kind a.place a.origins.now l.i (omega arith) (sym h.if-is_of.false ∙ c.is_of.ensures) _ (take l.n l.found) l.invariant.1,
      )
    ]

pub returns-clause-found : goal.returns-clause-found
returns-clause-found c =
    let l = c.loop-i in
    let a = c.args in
    found_all a.kind a.place a.origins.now l.i (omega arith) _ (take l.n l.found) l.invariant.1
