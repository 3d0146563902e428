-- What stands at one place of two logs, with a refusal's number. Definitions only. Assumes nothing.
use Rattle.std.specs.Prelude.{ℕ}
use Rattle.admission.specs.Refusals.{number_of}
use Rattle.comparison.specs.declared.Difference.{Difference}
use Rattle.comparison.specs.declared.Turn.{Turn as TurnCode}
use Rattle.comparison.specs.declared.Turn.TheVariants as code

-- two records that agree, with the bytes behind them; an unreadable answer of theirs, by the number of its fault; two that
-- differ; both logs ended, or one of them
pub data Turn : Type 0 where
  Onward : ℕ → ℕ → Turn
  Unreadable : ℕ → Turn
  Different : Difference → Turn
  BothEnded : Turn
  OneEnded : Difference → Turn

-- what the code says of it
abbrev pub said_turn : TurnCode → Turn
said_turn (code.Onward j k) = Onward j k
said_turn (code.Unreadable r) = Unreadable (number_of r)
said_turn (code.Different d) = Different d
said_turn code.BothEnded = BothEnded
said_turn (code.OneEnded d) = OneEnded d
