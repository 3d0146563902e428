-- `compare::scenes_turn` meets its contract. Assumes nothing.
use Rattle.std.proofs.Common.{arith}
use Rattle.records.proofs.TurnLaws.{mid-length}
use Rattle.compare.proofs.TurnLaws.{put-fits, mine-fits, scenes-follow, scenes-ready}
use Rattle.compare.proofs.scenes_turn.Goals as goal

pub overflow_add-mine : goal.overflow_add-mine
overflow_add-mine g c =
    let a = c.args in
    let few = c.in_ok-brought.ensures in
    omega (
      arith,
      put-fits a.before a.input.now a.ours.now a.theirs.now c.read.new.buffer _ c.requires.0 c.requires.1 c.read.auto.buffer
          few _ _ _ c.turn-next.ensures,
      c.turn-next.auto.output,
      mid-length a.before.ours a.ours.now,
      c.requires.0.ours-fit,
    )

pub compare_next-requires : goal.compare_next-requires
compare_next-requires g c =
    let a = c.args in
    let few = c.in_ok-brought.ensures in (
      mine-fits a.before a.input.now a.ours.now a.theirs.now c.read.new.buffer _ c.requires.0 c.requires.1
          c.read.auto.buffer few _ _ _ c.turn-next.ensures c.turn-next.auto.output,
      c.requires.0.theirs-fit,
    )

pub returns-clause-follows : goal.returns-clause-follows
returns-clause-follows g c =
    let a = c.args in
    let few = c.in_ok-brought.ensures in
    scenes-follow a.before a.input.now a.ours.now a.theirs.now c.read.new.buffer _ c.requires.0 c.requires.1
    c.read.auto.buffer few _ _ _ c.turn-next.ensures _ _ _ c.compare_next.ensures

pub returns-clause-ready : goal.returns-clause-ready
returns-clause-ready g c =
    let a = c.args in
    let few = c.in_ok-brought.ensures in
    scenes-ready a.before a.input.now a.ours.now a.theirs.now c.read.new.buffer _ c.requires.0 c.requires.1
    c.read.auto.buffer few _ _ _ c.turn-next.ensures c.turn-next.auto.output _ _ _ c.compare_next.ensures
    c.turn-next.auto.input c.compare_next.auto.ours c.compare_next.auto.theirs
