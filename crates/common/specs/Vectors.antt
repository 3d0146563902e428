-- glam's operations on vectors of two f32, as 01, "The part we port", states them: each operation rounds once, in this order.
-- Definitions only. Assumes nothing.
use Rattle.std.specs.Prelude.{Bool, ◌&&◌, Float}
use Rattle.std.specs.Float.Ieee.{neg}
use Rattle.arithmetic.specs.Binary32.{◌⊕◌, ◌⊖◌, ◌⊗◌, ◌⊘◌, ◌≈ᶠ◌, bits, 0ᶠ, 1ᶠ}
use Rattle.arithmetic.specs.Root.{sqrt_of}
use Rattle.common.specs.declared.Vec2.{Vec2}

abbrev pub vec : Float → Float → Vec2
vec x y = record { x = x; y = y }

abbrev pub zero_vector : Vec2
zero_vector = vec 0ᶠ 0ᶠ

-- 01, "What is admitted": 65,536 for a component, 1,024 for a speed limit or a margin
abbrev pub reach : Float
reach = bits 0x4780_0000

abbrev pub longest : Float
longest = bits 0x4480_0000

unfoldable pub add_of : Vec2 → Vec2 → Vec2
add_of a b = vec (a.x ⊕ b.x) (a.y ⊕ b.y)

unfoldable pub sub_of : Vec2 → Vec2 → Vec2
sub_of a b = vec (a.x ⊖ b.x) (a.y ⊖ b.y)

unfoldable pub neg_of : Vec2 → Vec2
neg_of a = vec (neg a.x) (neg a.y)

unfoldable pub mul_of : Vec2 → Float → Vec2
mul_of a k = vec (a.x ⊗ k) (a.y ⊗ k)

-- "a vector over a number divides each component"
unfoldable pub div_of : Vec2 → Float → Vec2
div_of a k = vec (a.x ⊘ k) (a.y ⊘ k)

-- "dot is x·x' + y·y'"
unfoldable pub dot_of : Vec2 → Vec2 → Float
dot_of a b = a.x ⊗ b.x ⊕ a.y ⊗ b.y

-- "perp is (−y, x)"
unfoldable pub perp_of : Vec2 → Vec2
perp_of a = vec (neg a.y) a.x

-- "squared length is the dot with itself"
unfoldable pub length_squared_of : Vec2 → Float
length_squared_of a = dot_of a a

unfoldable pub distance_squared_of : Vec2 → Vec2 → Float
distance_squared_of a b = length_squared_of (sub_of a b)

-- "normalize multiplies both components by 1 / length"
unfoldable pub normalize_of : Vec2 → Vec2
normalize_of a = mul_of a (1ᶠ ⊘ sqrt_of (length_squared_of a))

-- equal by value in both components
unfoldable pub eq_of : Vec2 → Vec2 → Bool
eq_of a b = a.x ≈ᶠ b.x && a.y ≈ᶠ b.y

-- "determinant = a.x·b.y − a.y·b.x"
unfoldable pub determinant_of : Vec2 → Vec2 → Float
determinant_of a b = a.x ⊗ b.y ⊖ a.y ⊗ b.x
