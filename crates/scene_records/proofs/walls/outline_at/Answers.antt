-- `scene_records::walls::outline_at` meets its contract. Assumes nothing.
use Prim.Native.Nat.{◌+◌, ◌-◌, ◌*◌}
use mathlib.Core.Path.{◌≡◌, ◌∙◌}
use native.Mathlib.Omega.{arith}
use Rattle.scene_records.proofs.Chains.{told_exit}
use Rattle.scene_records.proofs.WallLaws.{outline-refused, outline-doubled, outline-stored}
use Rattle.scene_records.proofs.walls.outline_at.Goals as goal

pub returns-in_err-at : goal.returns-in_err-at
returns-in_err-at c =
    told_exit _ _ _ c.from_residual.ensures.1 ∙ outline-refused _ _ _ _ _ _ c.in_err-at.ensures

pub returns-in_err-unless : goal.returns-in_err-unless
returns-in_err-unless c =
    let a = c.args in
    let size : 2 * (a.start + a.head.count) - 2 * a.start ≡ 2 * a.head.count = omega arith in
    told_exit _ _ _ c.from_residual-in_err-unless.ensures.1
    ∙ outline-doubled _ _ _ _ _ _ _ c.requires c.in_ok-at.ensures _
    (rw (rw size at c.may_close-closes.ensures) at c.in_err-unless.ensures)

pub returns : goal.returns
returns c =
    let a = c.args in
    let size : 2 * (a.start + a.head.count) - 2 * a.start ≡ 2 * a.head.count = omega arith in
    outline-stored _ _ _ _ _ _ _ c.requires c.in_ok-at.ensures
    (rw (rw size at c.may_close-closes.ensures) at c.in_ok-unless.ensures)
