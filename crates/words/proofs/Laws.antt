-- Laws of bytes past an end and of NaN patterns. Assumes nothing.
use Prim.Native.Nat.{ℕ, ◌≤◌, ◌<◌}
use native.Mathlib.Omega.{arith}
use mathlib.Core.Path.{◌≡◌, refl, sym, ◌∙◌}
use mathlib.Core.Bool.{Bool, true, false, not, false≢true}
use mathlib.Core.List.{List}
use lib.ListN.{length, get_or, get_or-eq_default}
use lib.Dec.{T}
use lib.Ieee.{Float, nan, inf, fin, binary32, is_nan, nan_bits, of_bits, to_bits}
use lib.Ieee.Bits.{nan_bits_is}

-- past the end a byte is 0, and so is below 256
pub none-there : (s : List ℕ) (i : ℕ) → length s ≤ i → (0 ≡ get_or s i 0) × (0 < 256)
none-there s i h = (sym (get_or-eq_default s 0 h), omega arith)

-- there is one NaN
is-nan : (x : Float) → is_nan x ≡ true → nan ≡ x
unfolding is_nan
is-nan nan h = refl
is-nan (inf s) h = absurd (false≢true h)
is-nan (fin s m e) h = absurd (false≢true h)

-- every NaN pattern is the NaN's
pub nan-of : (p : ℕ) → nan_bits binary32 p ≡ true → nan ≡ of_bits binary32 p
nan-of p h = is-nan _ (sym (nan_bits_is binary32 p) ∙ h)

-- and the one that `to_bits` names
pub nan_pattern : (x : Float) → is_nan x ≡ true → 0x7fc0_0000 ≡ to_bits binary32 x
unfolding to_bits
nan_pattern x h = rw (← is-nan x h)

-- a test that failed, as `from_bits` and `to_bits` ask for it
pub failed : (b : Bool) → b ≡ false → T (not b)
failed b h = rw h tt
