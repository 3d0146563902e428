-- `fallbacks::building::turns` meets its contract: what waits is handed on. Assumes nothing.
use Rattle.std.proofs.Common.{length, ◌≡◌, ◌<◌}
use Rattle.fallbacks.proofs.building.turns.Given as goal

abbrev pub invariant-loop : goal.invariant-loop
invariant-loop g l =
    (length l.input ≡ length l.initial.input) × (length l.entries ≡ length l.initial.entries) × (l.reading.kept < 18)
