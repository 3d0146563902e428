-- How lines stand against the answer at a place, by the definitions of the crate `linear_programming`. Definitions
-- only. Assumes nothing.
use Rattle.std.specs.Prelude.{ℕ, ◌+◌, ◌/◌, ◌%◌, Bool, ◌&&◌, List, eqb, Float}
use Rattle.std.specs.Float.{binary32}
use Rattle.std.specs.Float.Ieee.{of_bits}
use Rattle.words.specs.Words.{word_of}
use Rattle.common.specs.declared.Vec2.{Vec2}
use Rattle.one_line.specs.OneLine.{Cause, circle, parallel, crossing}
use Rattle.linear_programming.specs.Whole.{Phase, solving, relaxing, rigid_failure, Failed, no_line, failed_line}
use Rattle.replay_records.specs.Answers.{agrees_with}

abbrev pub nought : Float
nought = of_bits binary32 0

-- whether the cause is the one of a word: 1 the circle, 2 a parallel line, 3 ends that crossed, times 65,536, and the
-- earlier line's index
unfoldable pub is_cause : ℕ → Cause → Bool
is_cause word circle = eqb word 65536
is_cause word (parallel i) = eqb (word / 65536) 2 && eqb (word % 65536) i
is_cause word (crossing i) = eqb (word / 65536) 3 && eqb (word % 65536) i

-- whether the failed line and its cause are those of two words
unfoldable pub is_failed : ℕ → ℕ → Failed → Bool
is_failed line word no_line = eqb line 0xffff_ffff && eqb word 0
is_failed line word (failed_line f) = eqb line f.index && is_cause word f.cause

-- whether kind, point, penetration, failed line with its cause, and probes are those of the answer at a place
unfoldable pub is_told : List ℕ → ℕ → ℕ → Vec2 → Float → Failed → ℕ → Bool
is_told s at kind p penetration f n =
    eqb (word_of s at) kind
    && agrees_with p.x (word_of s (at + 4))
    && agrees_with p.y (word_of s (at + 8))
    && agrees_with penetration (word_of s (at + 12))
    && is_failed (word_of s (at + 16)) (word_of s (at + 20)) f
    && eqb (word_of s (at + 24)) n

-- whether phase, failed line and probes are; a rigid failure's own index is the failed line, too
unfoldable pub is_standing : List ℕ → ℕ → Phase → Failed → ℕ → Bool
is_standing s at (solving p) f n = is_told s at 0 p nought f n
is_standing s at (relaxing p penetration) f n = is_told s at 1 p penetration f n
is_standing s at (rigid_failure k p) f n = is_told s at 2 p nought f n && eqb (word_of s (at + 16)) k
