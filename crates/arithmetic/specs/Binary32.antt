-- binary32 by short names: each operation rounds once, ties to even, as `lib.Ieee` decides (01, "The part we port").
-- Definitions only. Assumes nothing.
use Rattle.std.specs.Prelude.{ℕ, Bool, true, false, Float}
use Rattle.std.specs.Float.{nan, inf, fin, binary32}
use Rattle.std.specs.Float.Ieee as Ieee

infixl 60 ◌⊕◌
infixl 60 ◌⊖◌
infixl 70 ◌⊗◌
infixl 70 ◌⊘◌
infix 50 ◌≤ᶠ◌
infix 50 ◌<ᶠ◌
infix 50 ◌≈ᶠ◌
infix 10 when◌then◌else◌
abbrev pub ◌⊕◌ : Float → Float → Float
a ⊕ b = Ieee.add binary32 a b

abbrev pub ◌⊖◌ : Float → Float → Float
a ⊖ b = Ieee.sub binary32 a b

abbrev pub ◌⊗◌ : Float → Float → Float
a ⊗ b = Ieee.mul binary32 a b

abbrev pub ◌⊘◌ : Float → Float → Float
a ⊘ b = Ieee.div binary32 a b

-- comparisons by value: two zeros are equal, and each is false where a NaN stands
abbrev pub ◌<ᶠ◌ : Float → Float → Bool
a <ᶠ b = Ieee.lt a b

abbrev pub ◌≤ᶠ◌ : Float → Float → Bool
a ≤ᶠ b = Ieee.le a b

abbrev pub ◌≈ᶠ◌ : Float → Float → Bool
a ≈ᶠ b = Ieee.eq a b

-- constants by their bit patterns, as the code has them
abbrev pub bits : ℕ → Float
bits n = Ieee.of_bits binary32 n

abbrev pub 0ᶠ : Float
0ᶠ = bits 0

abbrev pub 1ᶠ : Float
1ᶠ = bits 0x3F80_0000

-- the solve's midpoint and the cutoff time of a degenerate edge have it
abbrev pub halfᶠ : Float
halfᶠ = bits 0x3F00_0000

unfoldable pub when◌then◌else◌ : {A : Type 0} → Bool → A → A → A
when◌then◌else◌ true a b = a
when◌then◌else◌ false a b = b

-- neither a NaN nor an infinity
unfoldable pub finite : Float → Bool
finite nan = false
finite (inf s) = false
finite (fin s m e) = true
