-- `daily_tally::advance_within` meets its contract. Assumes nothing.
use Rattle.std.proofs.Common.{◌≡◌, ◌-◌, ◌^◌, ◌<◌, ◌≤◌, length, drop}
use Rattle.answer_logs.specs.Parts.{wholes_from}
use Rattle.daily_tally.specs.Steps.{progress, advanced, largest_in}
use Rattle.daily_tally.proofs.advance_within.Given as goal

-- the answer from the start is the answer from here, and its probes are small where those from here are
abbrev pub invariant-loop-refusal : goal.invariant-loop-refusal
invariant-loop-refusal l = (l.at ≤ length l.part)
    × (advanced l.most l.part l.initial.next l.initial.sum ≡ progress l.at l.next l.sum (wholes_from (l.most - l.next) l.next (drop l.at l.part)))
    × (largest_in (wholes_from (l.most - l.next) l.next (drop l.at l.part)) < 2 ^ 32 →
    largest_in (wholes_from (l.most - l.initial.next) l.initial.next l.part) < 2 ^ 32)

abbrev pub decreases-loop-refusal : goal.decreases-loop-refusal
decreases-loop-refusal l = length l.part - l.at
