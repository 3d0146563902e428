-- Tallies of good and bad vectors. Definitions only. Assumes nothing.
use Rattle.std.specs.Prelude.{ℕ, ◌+◌, min, Bool, true, false, cond, ◌&&◌, eqb, ltb}
use Rattle.verdict.specs.declared.Tally.{Tally}

-- of no vectors
abbrev pub no_vectors : Tally
no_vectors = record { good = 0; bad = 0; first = 0 }

-- one more than n, or n at the last u64
unfoldable pub more_of : ℕ → ℕ
more_of n = min (n + 1) 0xffff_ffff_ffff_ffff

-- the name of the first bad vector, where one more of this name is bad
unfoldable pub first_of : Tally → ℕ → ℕ
first_of t name = cond (eqb t.bad 0) name t.first

-- the tally with one vector more, good or bad
unfoldable pub with_of : Tally → Bool → ℕ → Tally
with_of t true name = record { good = more_of t.good; bad = t.bad; first = t.first }
with_of t false name = record { good = t.good; bad = more_of t.bad; first = first_of t name }

-- there were vectors, and none was bad
unfoldable pub is_good : Tally → Bool
is_good t = ltb 0 t.good && eqb t.bad 0
