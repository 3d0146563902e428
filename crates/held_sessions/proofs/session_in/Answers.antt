use Rattle.std.proofs.Common.{arith, length-set}
use Rattle.lines.specs.Lines.{lines_of, off_line}
use Rattle.lines.specs.Origins.{origins_of, unknown}
use Rattle.lines.proofs.Rows.{lines_long}
use Rattle.lines.proofs.OriginRows.{origins-long}
use Rattle.held_sessions.specs.Blocks.{session_in}
use Rattle.held_sessions.proofs.FillLaws.{filled_next, filled}
use Rattle.held_sessions.proofs.session_in.Goals as goal

pub loop-i-preserved : goal.loop-i-preserved
loop-i-preserved c =
    let l = c.loop-i in
    let xs = c.args.lines.now in
    let os = c.args.origins.now in
    let many = lines_long xs in
    let known = origins-long os in
    record {
      held_long = simp length-set l.invariant.held_long;
      known_long = simp length-set l.invariant.known_long;
      lines = filled_next l.held (lines_of xs) l.i off_line (omega arith) (omega arith) l.invariant.lines c.line_at.ensures;
      origins = filled_next l.known (origins_of os) l.i unknown (omega arith) (omega arith) l.invariant.origins
          c.origin_at.ensures;
    }

pub returns : goal.returns
unfolding session_in
returns c =
    let l = c.loop-i in
    let xs = c.args.lines.now in
    let os = c.args.origins.now in
    let many = lines_long xs in
    let known = origins-long os in
    rw (
      filled l.held (lines_of xs) l.i (omega arith) (omega arith) l.invariant.lines,
      filled l.known (origins_of os) l.i (omega arith) (omega arith) l.invariant.origins,
      c.new.ensures,
      c.phase_in.ensures,
      c.failed_in.ensures,
    )
