-- One part of a stream worked: where it leads, and what the output holds then. Definitions only. Assumes nothing.
use Rattle.std.specs.Prelude.{ℕ, ◌+◌, ◌-◌, List, ◌++◌, Option, Some, None, leb, length, take, drop}
use Rattle.arithmetic.specs.Binary32.{when◌then◌else◌}
use Rattle.answer_records.specs.Answers.{longest_answer, refusal_bytes}
use Rattle.records.specs.declared.Place.{Place}
use Rattle.records.specs.Answered.{reply_to}
use Rattle.records.specs.Parts.{Part, skipped, overlong, whole, cut_short, part_in}

-- how many bytes of answers stand, and what the output holds
pub record Put : Type 0 where
  pub count : ℕ
  pub contents : List ℕ

abbrev pub put : ℕ → List ℕ → Put
put n l = record { count = n; contents = l }

-- bytes behind the n that stand; what lies behind them stays
abbrev pub put_at : ℕ → List ℕ → List ℕ → Put
put_at n bytes l = put (n + length bytes) (take n l ++ bytes ++ drop (n + length bytes) l)

pub data Stepped : Type 0 where
  goes_on : Place → List ℕ → Stepped
  stops : List ℕ → Stepped

abbrev pub stepped_of : Option Place → List ℕ → Stepped
stepped_of (Some p) l = goes_on p l
stepped_of None l = stops l

abbrev pub place_at : ℕ → Put → ℕ → Place
place_at used p skip = record { used = used; put = p.count; skip = skip }

abbrev pub goes_with : ℕ → Put → ℕ → Stepped
goes_with used p skip = goes_on (place_at used p skip) p.contents

-- an overlong record gets 4 when its length is read; a whole one is answered
abbrev pub step_by : List ℕ → List ℕ → Place → Part → Stepped
step_by s out p cut_short = stops out
step_by s out p (skipped k) = goes_with (p.used + k) (put p.put out) (p.skip - k)
step_by s out p (overlong n) = goes_with (p.used + 2) (put_at p.put (refusal_bytes 4) out) n
step_by s out p (whole k) = goes_with (p.used + k) (put_at p.put (reply_to (take k (drop p.used s))) out) 0

-- a part is worked where there is room for the longest answer
unfoldable pub step_over : List ℕ → List ℕ → Place → Stepped
step_over s out p =
    when leb longest_answer (length out - p.put) then step_by s out p (part_in p.skip (drop p.used s)) else stops out
