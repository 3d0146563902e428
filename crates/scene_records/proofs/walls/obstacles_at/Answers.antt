use mathlib.Core.Path.{sym, ◌∙◌}
use Rattle.scene_records.proofs.Chains.{told_exit}
use Rattle.scene_records.proofs.WallLaws.{walls-done, head-refused, wall-refused, walls-next}
use Rattle.scene_records.proofs.walls.obstacles_at.Goals as goal

pub returns-in_err-head : goal.returns-in_err-head
returns-in_err-head c =
    told_exit _ _ _ c.from_residual.ensures.1
    ∙ sym (c.loop-i.invariant.rest ∙ head-refused _ _ _ _ _ _ _ _ c.loop-i-test.true _ c.in_err-head.ensures.reads)

pub returns-in_err-next : goal.returns-in_err-next
returns-in_err-next c =
    told_exit _ _ _ c.from_residual-in_err-next.ensures.1
    ∙ sym (c.loop-i.invariant.rest ∙ wall-refused _ _ _ _ _ _ _ _ c.loop-i-test.true _ _ c.in_ok-head.ensures.reads _
    c.in_err-next.ensures)

pub loop-i-preserved : goal.loop-i-preserved
loop-i-preserved c = record {
  room = c.in_ok-head.ensures.fits.1;
  rest = c.loop-i.invariant.rest ∙ walls-next _ _ _ _ _ _ _ _ c.loop-i-test.true _ _ c.in_ok-head.ensures.reads _ _
      c.in_ok-next.ensures;
}

pub returns : goal.returns
returns c = walls-done _ _ _ _ _ _ c.loop-i-test.false ∙ sym c.loop-i.invariant.rest
