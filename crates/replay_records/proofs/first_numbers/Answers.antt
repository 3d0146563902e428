use Rattle.std.proofs.Common.{arith, add-one}
use Rattle.std.proofs.Math.ListN.{length-set}
use Rattle.std.proofs.Math.Seq.{take-suc-set}
use Rattle.replay_records.specs.Records.{first_numbers}
use Rattle.replay_records.proofs.first_numbers.Goals as goal

pub loop-i-preserved : goal.loop-i-preserved
unfolding first_numbers
loop-i-preserved c =
    let l = c.loop-i in (
      simp length-set l.invariant.0,
      rw (add-one, take-suc-set l.numbers l.i c.number_at.result (omega arith), l.invariant.1, c.number_at.ensures),
    )
