-- What computing with numbers and vectors opens, and the constants: antt computes that each bit pattern is the number
-- that 01 gives. Assumes nothing.
use Prim.Native.Nat.{ℕ}
use mathlib.Core.Path.{◌≡◌, refl}
use mathlib.Core.Bool.{false}
use mathlib.Core.List.{[], ◌∷◌}
use lib.Ieee.{Float, binary32, round}
use lib.Ieee as Ieee
use Rattle.arithmetic.specs.Binary32.{0ᶠ, 1ᶠ, halfᶠ, when◌then◌else◌, finite}
use Rattle.arithmetic.specs.Ends.{abs_of, min_of, max_of, clamp_of}
use Rattle.arithmetic.specs.Root.{sqrt_of}
use Rattle.common.specs.Vectors.{reach, longest, add_of, sub_of, mul_of, dot_of, perp_of, determinant_of, length_squared_of, normalize_of}
use Rattle.lines.specs.Lines.{epsilon}
use Rattle.lines.specs.LineFaults.{line_reach, band_low, band_high}

unfoldable pub computed : Unit {0}
unfolding Ieee.add Ieee.sub Ieee.mul Ieee.div Ieee.neg Ieee.lt Ieee.le Ieee.eq Ieee.is_nan Ieee.of_int Ieee.of_bits Ieee.round
    add_of sub_of mul_of dot_of perp_of determinant_of length_squared_of normalize_of when◌then◌else◌ abs_of finite min_of max_of clamp_of sqrt_of
computed = tt

-- the f32 nearest to a ratio
abbrev ratio : ℕ → ℕ → Float
ratio a b = round binary32 false a b

-- those of arithmetic, of vectors, and of lines
pub constants :
    (0ᶠ ∷ 1ᶠ ∷ halfᶠ ∷ reach ∷ longest ∷ epsilon ∷ line_reach ∷ band_low ∷ band_high ∷ [])
    ≡ (ratio 0 1 ∷ ratio 1 1 ∷ ratio 1 2 ∷ ratio 65536 1 ∷ ratio 1024 1 ∷ ratio 1 100000 ∷ ratio 268435456 1
    ∷ ratio 1023 1024 ∷ ratio 1025 1024 ∷ [])
unfolding computed
constants = refl
