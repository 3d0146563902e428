-- 01, "Records": "Big-endian." Numbers as bytes, the first byte highest. Definitions only. Assumes nothing.
use Rattle.std.specs.Prelude.{ℕ, zero, suc, ◌+◌, ◌*◌, ◌/◌, ◌%◌, ◌^◌, ◌<◌, get_or, List, [], ◌∷◌, ◌++◌}

-- the bytes as one number, n being the number that stands in front of them
unfoldable pub big_endian_from : ℕ → List ℕ → ℕ
big_endian_from n [] = n
big_endian_from n (b ∷ l) = big_endian_from (n * 256 + b) l

-- the bytes as one number, the first byte highest
unfoldable pub big_endian_number : List ℕ → ℕ
big_endian_number l = big_endian_from 0 l

-- the w lowest bytes of x, the highest first
unfoldable pub big_endian : ℕ → ℕ → List ℕ
big_endian zero x = []
big_endian (suc w) x = x / 256 ^ w % 256 ∷ big_endian w x

-- the bytes of each, or its numbers, one behind the other
unfoldable pub each : {A B : Type 0} → (A → List B) → List A → List B
each bytes [] = []
each bytes (a ∷ l) = bytes a ++ each bytes l

-- every element is a byte; past the end `get_or` gives 0
abbrev pub AllBytes : List ℕ → Type 0
AllBytes l = (i : ℕ) → get_or l i 0 < 256
