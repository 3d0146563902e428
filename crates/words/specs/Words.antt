-- Big-endian words of four bytes and pairs of two in a list of bytes. Definitions only. Assumes nothing.
use Rattle.std.specs.Prelude.{ℕ, ◌+◌, ◌*◌, ◌/◌, ◌%◌, List, [], ◌∷◌, get_or}

-- the four bytes from a place on as one number, the first highest, a byte past the end counting as 0
unfoldable pub word_of : List ℕ → ℕ → ℕ
word_of s at = get_or s at 0 * 16777216 + get_or s (at + 1) 0 * 65536 + get_or s (at + 2) 0 * 256 + get_or s (at + 3) 0

-- the two bytes from a place on, alike
unfoldable pub pair_of : List ℕ → ℕ → ℕ
pair_of s at = get_or s at 0 * 256 + get_or s (at + 1) 0

-- and back: the lowest four bytes of a number, the highest of them first, and the lowest two
unfoldable pub word_bytes : ℕ → List ℕ
word_bytes x = x / 16777216 % 256 ∷ x / 65536 % 256 ∷ x / 256 % 256 ∷ x % 256 ∷ []

unfoldable pub pair_bytes : ℕ → List ℕ
pair_bytes x = x / 256 % 256 ∷ x % 256 ∷ []
