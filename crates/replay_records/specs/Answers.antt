-- Inputs and answers at the places of a record, counted in bytes. Definitions only. Assumes nothing.
use Rattle.std.specs.Prelude.{ℕ, ◌+◌, Bool, ◌&&◌, true, false, List, eqb, Float}
use Rattle.std.specs.Float.{binary32}
use Rattle.std.specs.Float.Ieee.{of_bits, eq}
use Rattle.words.specs.Words.{word_of}
use Rattle.words.specs.Patterns.{has_pattern}
use Rattle.common.specs.Vectors.{vec}
use Rattle.common.specs.declared.Vec2.{Vec2}

-- the number at a place
unfoldable pub number_at : List ℕ → ℕ → Float
number_at s at = of_bits binary32 (word_of s at)

-- the vector at a place
unfoldable pub vector_at : List ℕ → ℕ → Vec2
vector_at s at = vec (number_at s at) (number_at s (at + 4))

-- whether a number is the answer at a place, bit for bit
unfoldable pub is_number : List ℕ → ℕ → Float → Bool
is_number s at x = has_pattern x (word_of s at)

-- whether a vector is
unfoldable pub is_vector : List ℕ → ℕ → Vec2 → Bool
is_vector s at v = is_number s at v.x && is_number s (at + 4) v.y

-- whether a flag is: a word of 1 for true, of 0 for false
unfoldable pub is_flag : List ℕ → ℕ → Bool → Bool
is_flag s at true = eqb (word_of s at) 1
is_flag s at false = eqb (word_of s at) 0

-- whether a number is the one with the pattern by value: a zero agrees with both, a NaN with none
unfoldable pub agrees_with : Float → ℕ → Bool
agrees_with x p = eq x (of_bits binary32 p)
