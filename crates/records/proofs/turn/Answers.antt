-- `records::turn` meets its contract. Assumes nothing.
use native.Mathlib.Omega.{arith}
use mathlib.Core.Path.{sym, ap, ◌∙◌}
use Rattle.kept.specs.Kept.{Kept}
use Rattle.kept.proofs.KeptLaws.{kept_there}
use Rattle.records.proofs.TurnLaws.{has_room, no-turn, last_turn, used-there, whole-turn}
use Rattle.records.proofs.turn.Goals as goal

pub returns-then-not-is_room : goal.returns-then-not-is_room
returns-then-not-is_room c = no-turn _ _ _ _ (sym c.is_room.ensures ∙ c.if-not-is_room.true)

pub finish-put-requires : goal.finish-put-requires
finish-put-requires c = omega (
  arith,
  (has_room _ _ _ _ (sym c.is_room.ensures
      ∙ c.if-not-is_room.false)).0,
)

pub returns-then-read-eq0 : goal.returns-then-read-eq0
returns-then-read-eq0 c =
    let a = c.args in
    last_turn a.input.now a.output.now a.before a.read (sym c.is_room.ensures
    ∙ c.if-not-is_room.false) c.if-read-eq0.true _ _ c.finish-put.ensures

pub overflow_add-there : goal.overflow_add-there
overflow_add-there c = omega (arith, (has_room _ _ _ _ (sym c.is_room.ensures ∙ c.if-not-is_room.false)).1)

pub slice_bounds-work-end : goal.slice_bounds-work-end
slice_bounds-work-end c = omega (
  arith,
  (has_room _ _ _ _ (sym c.is_room.ensures
      ∙ c.if-not-is_room.false)).1,
)

pub returns : goal.returns
returns c =
    let a = c.args in
    let room = sym c.is_room.ensures ∙ c.if-not-is_room.false in
    let used = used-there a.input.now a.output.now a.before a.read room c.if-read-eq0.false _ _ c.work-place.ensures in
    let moved = c.keep-left.ensures
    ∙ kept_there _ _ a.input.now used (omega (arith, (has_room _ _ _ _ room).1)) in
    rw (ap (λ (k : Kept). k.count) moved, ap (λ (k : Kept). k.contents) moved)
    (whole-turn a.input.now a.output.now a.before a.read room c.if-read-eq0.false _ _ c.work-place.ensures)
