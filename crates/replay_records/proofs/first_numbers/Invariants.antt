-- `replay_records::first_numbers` meets its contract. The invariant: the first i numbers are those of the bytes. Assumes nothing.
use Rattle.std.proofs.Common.{◌≡◌, length, take}
use Rattle.replay_records.specs.Records.{first_numbers}
use Rattle.replay_records.proofs.first_numbers.Given as goal

abbrev pub invariant-loop-i : goal.invariant-loop-i
invariant-loop-i l = (length l.numbers ≡ 1280) × (take l.i l.numbers ≡ first_numbers l.bytes l.i)
