-- `index_building::builds::store_end` meets its contract. Assumes nothing.
use native.Mathlib.Omega.{arith}
use Rattle.std.proofs.Common.{rules}
use Rattle.index_building.proofs.WholeLaws.{end_refused, end_fits, end_short, end-done}
use Rattle.index_building.proofs.builds.store_end.Goals as goal

pub returns-in_err-judge_end : goal.returns-in_err-judge_end
returns-in_err-judge_end c = rw (← end_refused _ _ _ _ _ c.in_err-judge_end.ensures) (search rules)

pub returns-then-buffer-lt-START_BYTES : goal.returns-then-buffer-lt-START_BYTES
returns-then-buffer-lt-START_BYTES c = end_short _ _ _ _ c.in_ok-judge_end.ensures c.if-buffer-lt-START_BYTES.true

pub overflow_cast-extent : goal.overflow_cast-extent
overflow_cast-extent c =
    omega (
      arith,
      end_fits _ _ c.args.extent c.args.buffer.now c.in_ok-judge_end.ensures,
      c.requires,
    )

pub overflow_cast-extent-2 : goal.overflow_cast-extent-2
overflow_cast-extent-2 c =
    omega (
      arith,
      end_fits _ _ c.args.extent c.args.buffer.now c.in_ok-judge_end.ensures,
      c.requires,
    )

pub returns : goal.returns
returns c =
    end-done _ _ _ _ c.in_ok-judge_end.ensures
    c.if-buffer-lt-START_BYTES.false _ c.put_start.ensures
