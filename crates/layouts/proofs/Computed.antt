-- Lent obstacles of a few numbers, judged by computing: one line for each place where the order of telling shows.
-- Assumes nothing.
use Prim.Native.Nat.{ℕ, zero, suc}
use mathlib.Core.Path.{◌≡◌, refl}
use mathlib.Core.List.{List, [], ◌∷◌}
use lib.Ieee.{Float, nan}
use Rattle.arithmetic.specs.Binary32.{bits, 0ᶠ}
use Rattle.admission.specs.Faults.{fine, fault}
use Rattle.lines.proofs.Computed.{computed}
use Rattle.obstacles.proofs.Computed.{faults_computed}
use Rattle.layouts.specs.Layouts.{vertices, at_fault, kind_fault, count_fault, own_fault, lent_fault, layout_fault, vertex_total, layout_in, left_fault}

abbrev pub 1ᶠ : Float
1ᶠ = bits 0x3F80_0000

abbrev pub -0ᶠ : Float
-0ᶠ = bits 0x8000_0000

-- 384 numbers, no two neighbouring vertices alike
unfoldable pub alternating : ℕ → List Float
alternating zero = []
alternating (suc n) = 0ᶠ ∷ 0ᶠ ∷ 1ᶠ ∷ 0ᶠ ∷ alternating n

unfoldable pub layouts_computed : Unit {0}
unfolding computed faults_computed kind_fault count_fault own_fault lent_fault layout_fault vertex_total layout_in left_fault alternating
layouts_computed = tt

-- "fewer" is told at the field that misses it, not up front
pub fewer :
    (layout_in 1 (2 ∷ []) (2 ∷ []) (nan ∷ 0ᶠ ∷ 0ᶠ ∷ []) ∷ layout_in 1 (2 ∷ []) (2 ∷ []) (0ᶠ ∷ 0ᶠ ∷ 0ᶠ ∷ [])
    ∷ layout_in 1 [] [] [] ∷ layout_in 1 (3 ∷ []) [] [] ∷ layout_in 1 (1 ∷ []) [] [] ∷ layout_in 17 [] [] [] ∷ [])
    ≡ (at_fault 6 ∷ at_fault 2 ∷ at_fault 2 ∷ at_fault 3 ∷ at_fault 2 ∷ at_fault 4 ∷ [])
unfolding layouts_computed
fewer = refl

pub counted :
    (layout_in 1 (2 ∷ []) (0 ∷ []) [] ∷ layout_in 1 (1 ∷ []) (0 ∷ []) [] ∷ layout_in 1 (2 ∷ []) (2 ∷ [])
    (0ᶠ ∷ 0ᶠ ∷ 1ᶠ ∷ 0ᶠ ∷ bits 0x4110_0000 ∷ []) ∷ layout_in 1 (1 ∷ []) (65 ∷ []) [] ∷ [])
    ≡ (at_fault 5 ∷ vertices 0 ∷ vertices 2 ∷ at_fault 4 ∷ [])
unfolding layouts_computed
counted = refl

-- the running total is met before vertices are missed
pub running : layout_in 4 (1 ∷ 1 ∷ 1 ∷ 1 ∷ []) (64 ∷ 64 ∷ 64 ∷ 1 ∷ []) (alternating 96) ≡ at_fault 4
unfolding layouts_computed
running = refl

-- "more" is told by a test of its own
pub beyond :
    (left_fault 1 2 (2 ∷ []) (2 ∷ []) (0ᶠ ∷ 0ᶠ ∷ 1ᶠ ∷ 0ᶠ ∷ 0ᶠ ∷ []) ∷ left_fault 1 2 (2 ∷ []) (2 ∷ [])
    (0ᶠ ∷ 0ᶠ ∷ 1ᶠ ∷ 0ᶠ ∷ []) ∷ left_fault 0 0 (1 ∷ []) [] [] ∷ left_fault 0 0 [] (1 ∷ []) [] ∷ [])
    ≡ (fault 2 ∷ fine ∷ fault 2 ∷ fault 2 ∷ [])
unfolding layouts_computed
beyond = refl

-- 02, T-11: 14 is told at the second vertex, behind its own 6 and before anything behind it; −0 is 0
pub doubled :
    (layout_in 1 (2 ∷ []) (2 ∷ []) (0ᶠ ∷ 0ᶠ ∷ -0ᶠ ∷ 0ᶠ ∷ []) ∷ layout_in 1 (2 ∷ []) (3 ∷ []) (0ᶠ ∷ 0ᶠ ∷ 0ᶠ ∷ 0ᶠ ∷ nan
    ∷ []) ∷ layout_in 1 (2 ∷ []) (2 ∷ []) (0ᶠ ∷ 0ᶠ ∷ 0ᶠ ∷ nan ∷ []) ∷ [])
    ≡ (at_fault 14 ∷ at_fault 14 ∷ at_fault 6 ∷ [])
unfolding layouts_computed
doubled = refl

-- x alone, or y alone, or with another vertex between, or of two obstacles: no pair
pub apart :
    (layout_in 1 (2 ∷ []) (3 ∷ []) (0ᶠ ∷ 0ᶠ ∷ 0ᶠ ∷ 1ᶠ ∷ 1ᶠ ∷ 1ᶠ ∷ []) ∷ layout_in 1 (2 ∷ []) (3 ∷ [])
    (0ᶠ ∷ 0ᶠ ∷ 1ᶠ ∷ 0ᶠ ∷ 0ᶠ ∷ 0ᶠ ∷ []) ∷ layout_in 2 (2 ∷ 2 ∷ []) (1 ∷ 1 ∷ []) (0ᶠ ∷ 0ᶠ ∷ 0ᶠ ∷ 0ᶠ ∷ []) ∷ [])
    ≡ (vertices 3 ∷ vertices 3 ∷ vertices 2 ∷ [])
unfolding layouts_computed
apart = refl

-- the closing pair of a closed obstacle, of one vertex too; behind its last vertex, before the next kind
pub closing :
    (layout_in 2 (1 ∷ 3 ∷ []) (3 ∷ []) (0ᶠ ∷ 0ᶠ ∷ 1ᶠ ∷ 0ᶠ ∷ 0ᶠ ∷ -0ᶠ ∷ []) ∷ layout_in 1 (1 ∷ []) (1 ∷ []) (0ᶠ ∷ 0ᶠ ∷ [])
    ∷ layout_in 1 (2 ∷ []) (1 ∷ []) (0ᶠ ∷ 0ᶠ ∷ []) ∷ layout_in 1 (1 ∷ []) (2 ∷ []) (0ᶠ ∷ 0ᶠ ∷ 1ᶠ ∷ 0ᶠ ∷ []) ∷ [])
    ≡ (at_fault 14 ∷ at_fault 14 ∷ vertices 1 ∷ vertices 2 ∷ [])
unfolding layouts_computed
closing = refl
