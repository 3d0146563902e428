-- Answer records and logs of them, as a C caller is told. Definitions only. Assumes nothing.
use Rattle.std.specs.Prelude.{ℕ, ◌+◌, Result, Ok, Err}
use Rattle.answer_records.specs.Answers.{refused_code}
use Rattle.answer_records.specs.Replies as said
use Rattle.answer_records.specs.Replies.{Said}
use Rattle.daily_tally.specs.declared.DayTally.{DayTally}
use Rattle.daily_tally.specs.Figures.{Walked, to-end, stopped, Tallied}
use Rattle.index_building.specs.Indexes.{Standing, standing}
use Rattle.boltmeadow.specs.declared.logs.BmReply.{BmReply}
use Rattle.boltmeadow.specs.declared.logs.BmTally.{BmTally}
use Rattle.boltmeadow.specs.declared.logs.BmFallbacks.{BmFallbacks}
use Rattle.boltmeadow.specs.declared.scenes.BmWritten.{BmWritten}
use Rattle.boltmeadow.specs.Scenes.{written}

-- ---- an answer record

unfoldable pub reply : ℕ → ℕ → ℕ → ℕ → ℕ → ℕ → BmReply
reply number code x y line n = record { refusal = number; code = code; x = x; y = y; failed_line = line; probes = n }

-- a refused scene by the record's code
abbrev pub reply_told : Said → BmReply
reply_told (said.outcome a) = reply 0 a.code a.x a.y a.failed a.probes
reply_told (said.refusal n) = reply 0 (refused_code + n) 0 0 0 0
reply_told (said.unreadable r) = reply r 0 0 0 0 0

-- ---- a day's figures

unfoldable pub page : ℕ → ℕ → DayTally → BmTally
page number place t = record {
  refusal = number;
  place = place;
  outcomes = t.outcomes;
  refusals = t.refusals;
  probes = t.probes;
  largest = t.largest;
  failed = t.failed;
}

-- beside a refusal `tallied` has no figures
abbrev pub page_by : Walked → DayTally → BmTally
page_by to-end t = page 0 0 t
page_by (stopped r place) t = page r place t

abbrev pub tally_told : Tallied → BmTally
tally_told t = page_by t.walked t.tally

-- ---- the index of fallbacks

unfoldable pub index_told : Result ℕ ℕ → BmWritten
index_told (Ok n) = written 0 n
index_told (Err r) = written r 0

-- beside what the buffer holds
unfoldable pub index_left : Standing (Result ℕ ℕ) → Standing BmWritten
index_left s = standing (index_told s.told) s.contents

abbrev pub fallbacks_told : Result ℕ ℕ → BmFallbacks
fallbacks_told (Ok n) = record { refusal = 0; count = n }
fallbacks_told (Err r) = record { refusal = r; count = 0 }
