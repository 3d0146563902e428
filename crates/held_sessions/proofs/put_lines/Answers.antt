use Rattle.std.proofs.Common.{refl, sym, ap, ◌∙◌, arith, take_all}
use Rattle.lines.specs.Lines.{lines_of, numbers_of, off_line}
use Rattle.lines.specs.Origins.{origins_of, unknown}
use Rattle.lines.proofs.Rows.{lines_long}
use Rattle.lines.proofs.Stored.{stored-line}
use Rattle.lines.proofs.Numbers.{numbers-back}
use Rattle.lines.proofs.OriginRows.{origins-long, stored-origin}
use Rattle.session.proofs.WithdrawalWork.{laid-origins}
use Rattle.held_sessions.proofs.FillLaws.{filled_next, filled}
use Rattle.held_sessions.proofs.put_lines.Goals as goal

pub loop-n-preserved : goal.loop-n-preserved
loop-n-preserved c =
    let l = c.loop-n in
    let held = c.args.held.now in
    let origins = c.args.known.now in
    let many = lines_long l.lines in
    let known = origins-long l.origins in
    record {
      lines = rw (c.put_line.ensures, stored-line l.lines l.n _ (omega arith))
          (filled_next (lines_of l.lines) held l.n off_line (omega arith) (omega arith) l.invariant.lines refl);
      origins = rw (c.put_origin.ensures, stored-origin l.origins l.n _ (omega arith))
          (filled_next (origins_of l.origins) origins l.n unknown (omega arith) (omega arith) l.invariant.origins refl);
    }

pub returns : goal.returns
returns c =
    let l = c.loop-n in
    let held = c.args.held.now in
    let origins = c.args.known.now in
    let many = lines_long l.lines in
    record {
      lines = sym (numbers-back l.lines (omega arith))
          ∙ ap numbers_of (filled (lines_of l.lines) held l.n (omega arith) (omega arith) l.invariant.lines);
      origins = sym (take_all 768 l.origins (omega arith))
          ∙ laid-origins l.origins l.n 768 origins (omega arith) (omega arith)
          (l.invariant.origins ∙ take_all l.n origins (omega arith));
    }
