-- `conversion::flow::walk` meets its contract. Assumes nothing.
use Rattle.std.proofs.Common.{◌-◌, length}
use Rattle.conversion.proofs.LoopLaws.{Going}
use Rattle.conversion.proofs.flow.walk.Given as goal

abbrev pub invariant-loop-behind : goal.invariant-loop-behind
invariant-loop-behind l = Going l.to l.input l.initial.output l.place l.output l.at

abbrev pub decreases-loop-behind : goal.decreases-loop-behind
decreases-loop-behind l = length l.input - l.at.used
