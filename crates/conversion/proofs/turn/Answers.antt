-- `conversion::turn` meets its contract. Assumes nothing.
use Rattle.std.proofs.Common.{sym, ap, ◌∙◌, arith}
use Rattle.kept.specs.Kept.{Kept}
use Rattle.kept.proofs.KeptLaws.{kept_there}
use Rattle.conversion.proofs.TurnLaws.{has_room_lem, walk-room, not-open, no-turn, last_turn, used-there}
use Rattle.conversion.proofs.TurnLaws.{refused-turn, whole-turn}
use Rattle.conversion.proofs.turn.Goals as goal

pub returns-then-not-is_room : goal.returns-then-not-is_room
returns-then-not-is_room g c =
    rw c.closed.ensures (no-turn _ _ _ _ _ (sym c.is_room.ensures ∙ c.if-not-is_room.true))

pub returns-then-read-eq0 : goal.returns-then-read-eq0
returns-then-read-eq0 g c =
    rw c.closed-then-read-eq0.ensures
    (last_turn _ _ _ _ _ (sym c.is_room.ensures ∙ c.if-not-is_room.false) _ c.last_stage.ensures c.if-read-eq0.true)

pub overflow_add-there : goal.overflow_add-there
overflow_add-there g c =
    omega (arith, (has_room_lem _ _ _ _ (sym c.is_room.ensures ∙ c.if-not-is_room.false)).1)

pub slice_bounds-walk-end : goal.slice_bounds-walk-end
slice_bounds-walk-end g c =
    omega (
      arith,
      (has_room_lem _ _ _ _ (sym c.is_room.ensures
          ∙ c.if-not-is_room.false)).1,
    )

pub walk-walk-requires : goal.walk-walk-requires
walk-walk-requires g c =
    let a = c.args in
    walk-room a.input.now a.output.now _ _
    (sym c.is_room.ensures ∙ c.if-not-is_room.false)

pub returns-in_default : goal.returns-in_default
returns-in_default g c =
    let a = c.args in
    let room = sym c.is_room.ensures ∙ c.if-not-is_room.false in
    rw c.closed-in_default.ensures
    (refused-turn a.to a.input.now a.output.now a.before a.read room c.if-read-eq0.false _ _
    c.walk-walk.ensures (not-open c.walk-walk.result.stage c.in_default.not-Open))

pub returns : goal.returns
returns g c =
    let a = c.args in
    let room = sym c.is_room.ensures ∙ c.if-not-is_room.false in
    let used = used-there a.to a.input.now a.output.now a.before a.read room c.if-read-eq0.false _ _
    c.walk-walk.ensures in
    let moved = c.keep.ensures
    ∙ kept_there _ _ a.input.now used (omega (arith, (has_room_lem _ _ _ _ room).1)) in
    rw (ap (λ (k : Kept). k.count) moved, ap (λ (k : Kept). k.contents) moved)
    (whole-turn a.to a.input.now a.output.now a.before a.read room c.if-read-eq0.false _ _
    c.walk-walk.ensures c.in-Open.is)
