use Rattle.std.proofs.Common.{get_or, sym, ap, arith}
use Rattle.lines.specs.Lines.{off_line}
use Rattle.lines.specs.Origins.{unknown, origins_of}
use Rattle.lines.proofs.Fold.{take_set_next}
use Rattle.lines.proofs.Stored.{stored_next}
use Rattle.lines.proofs.OriginRows.{origins-long, stored-origin}
use Rattle.session.proofs.WithdrawalWork.{laid_next}
use Rattle.session.proofs.Session.lay.Goals as goal

pub loop-n-preserved : goal.loop-n-preserved
loop-n-preserved c =
    let l = c.loop-n in
    let s = c.args.self.now in
    let w = c.args.withdrawn.now in
    let from = c.source_in-from.ensures in
    let near = rw from.0 at from.1 in
    let long = origins-long l.threes in
    record {
      lines = rw (c.put_line.ensures, stored_next l.numbers l.n _ (omega arith), l.invariant.lines)
          (sym (laid_next s.lines s.count w l.n (omega arith) (omega arith) near off_line _
          (ap (λ k. get_or s.lines k off_line) from.0)));
      origins = rw (
        c.put_origin.ensures,
        stored-origin l.threes l.n _ (omega arith),
        take_set_next (origins_of l.threes) l.n (omega arith) _,
        l.invariant.origins,
      )
          (sym (laid_next s.origins s.count w l.n (omega arith) (omega arith) near unknown _
          (ap (λ k. get_or s.origins k unknown) from.0)));
    }
