use Prim.Native.Nat.{◌+◌, ◌*◌}
use native.Mathlib.Omega.{arith}
use lib.Seq.{drop-drop}
use Rattle.scene_moves.specs.Moves.{number_size, line_size}
use Rattle.scene_moves.proofs.PutMoves.{room-left, putting-begins, putting-on, putting-done}
use Rattle.scene_moves.proofs.put.put_lines.Goals as goal

pub loop-i-init : goal.loop-i-init
loop-i-init c = putting-begins _ _ _ _ _ _

pub overflow_mul-new_line : goal.overflow_mul-new_line
overflow_mul-new_line c = rw c.line_size.ensures
    (omega (arith, room-left c.args.to c.loop-i.i c.args.count c.loop-i-test.true, c.requires.1))

pub overflow_add-new_line : goal.overflow_add-new_line
overflow_add-new_line c = rw c.line_size.ensures
    (omega (arith, room-left c.args.to c.loop-i.i c.args.count c.loop-i-test.true, c.requires.1))

pub overflow_mul-old_line : goal.overflow_mul-old_line
overflow_mul-old_line c = rw c.line_size-in-loop-i.ensures
    (omega (arith, room-left c.args.from c.loop-i.i c.args.count c.loop-i-test.true, c.requires.0))

pub overflow_add-old_line : goal.overflow_add-old_line
overflow_add-old_line c = rw c.line_size-in-loop-i.ensures
    (omega (arith, room-left c.args.from c.loop-i.i c.args.count c.loop-i-test.true, c.requires.0))

pub put_line-requires : goal.put_line-requires
put_line-requires c = rw (c.line_size.ensures, c.line_size-in-loop-i.ensures, c.number_size.ensures) (
  omega (arith, room-left c.args.from c.loop-i.i c.args.count c.loop-i-test.true, c.requires.0),
  omega (arith, room-left c.args.to c.loop-i.i c.args.count c.loop-i-test.true, c.requires.1, c.loop-i.auto.buffer),
)

pub loop-i-preserved : goal.loop-i-preserved
loop-i-preserved c =
    let l = c.loop-i in
    let a = c.args in
    putting-on a.from a.to _ a.source.now a.start a.count l.buffer _ l.i l.invariant c.loop-i-test.true c.requires.0
    c.put_line.auto.buffer
    (rw (drop-drop (number_size a.from) (a.start + line_size a.from * l.i) a.source.now)
    (rw (c.line_size.ensures, c.line_size-in-loop-i.ensures, c.number_size.ensures) at c.put_line.ensures))

pub returns : goal.returns
returns c = putting-done _ _ _ _ _ _ _ _ c.loop-i.invariant c.loop-i-test.false
