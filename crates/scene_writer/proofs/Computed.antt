-- Small scenes written by computing: one claim for each place where the order of telling or the bytes show. Assumes nothing.
use Prim.Native.Nat.{ℕ}
use mathlib.Core.Path.{◌≡◌, refl}
use mathlib.Core.List.{List, [], ◌∷◌, ◌++◌}
use lib.ListN.{replicate}
use lib.Ieee.{Float, nan, to_bits}
use Rattle.arithmetic.specs.Binary32.{bits, 0ᶠ}
use Rattle.admission.specs.Faults.{Fault, fine, fault}
use Rattle.common.specs.Vectors.{vec}
use Rattle.lines.specs.Lines.{lines_of}
use Rattle.dodgy_2d.specs.Scenes.{heads_of}
use Rattle.fields.specs.Bytes.{big_endian, each}
use Rattle.layouts.proofs.Computed.{layouts_computed}
use Rattle.scene_records.specs.declared.Cart.{Cart}
use Rattle.scene_records.specs.Parts.{cart_of}
use Rattle.scene_records.specs.SceneBytes.{number_bytes, vector_bytes, cart_bytes, obstacle_bytes, line_bytes, body_bytes, record_bytes, with_vertices}
use Rattle.scene_writer.specs.Writing.{cart_fault, lent_line_fault, lent_lines_fault, neighbours_fault, rest_fault, parts_fault, lent_bytes, written, laid_scene, written_scene}

unfoldable pub writer_computed : Unit {0}
unfolding layouts_computed to_bits lines_of heads_of big_endian each number_bytes vector_bytes cart_bytes obstacle_bytes
    line_bytes body_bytes record_bytes with_vertices
    cart_fault lent_line_fault lent_lines_fault neighbours_fault rest_fault parts_fault lent_bytes laid_scene written_scene
writer_computed = tt

abbrev pub 1ᶠ : Float
1ᶠ = bits 0x3F80_0000

abbrev pub -1ᶠ : Float
-1ᶠ = bits 0xBF80_0000

-- the cart of docs/RECORDS.md, with x as its position's first component: twenty 00, 3F 80 00 00, twelve 00 for x = 0
abbrev pub cart_at : Float → Cart
cart_at x = cart_of (vec x 0ᶠ) (vec 0ᶠ 0ᶠ) 0ᶠ 1ᶠ (vec 0ᶠ 0ᶠ) 0ᶠ

abbrev pub cart : Cart
cart = cart_at 0ᶠ

abbrev pub zeros : ℕ → List ℕ
zeros n = replicate n 0

-- ---- 10 is last, and bytes behind the record keep their contents

pub smallest :
    (written_scene (cart_at nan) 0 [] [] [] 0 [] [] ∷ written_scene cart 0 [] [] [] 0 [] (replicate 40 7)
    ∷ written_scene cart 0 [] [] [] 0 [] (replicate 41 7) ∷ written_scene cart 0 [] [] [] 0 [] (replicate 43 7) ∷ [])
    ≡ (written (fault 6) 0 [] ∷ written (fault 10) 0 (replicate 40 7)
    ∷ written fine 41 (0 ∷ 39 ∷ 1 ∷ zeros 20 ++ (63 ∷ 128 ∷ 0 ∷ 0 ∷ zeros 14))
    ∷ written fine 41 (0 ∷ 39 ∷ 1 ∷ zeros 20 ++ (63 ∷ 128 ∷ 0 ∷ 0 ∷ zeros 14) ++ (7 ∷ 7 ∷ [])) ∷ [])
unfolding writer_computed
smallest = refl

-- a wall of two vertices: 59 bytes; -0 is written as it is
pub wall : written_scene (cart_at (bits 0x8000_0000)) 1 (2 ∷ []) (2 ∷ []) (-1ᶠ ∷ 1ᶠ ∷ 1ᶠ ∷ 1ᶠ ∷ []) 0 [] (replicate 59 7)
    ≡ written fine 59 (0 ∷ 57 ∷ 1 ∷ 128 ∷ zeros 19 ++ (63 ∷ 128 ∷ 0 ∷ 0 ∷ zeros 12)
    ++ (1 ∷ 2 ∷ 2 ∷ 191 ∷ 128 ∷ 0 ∷ 0 ∷ 63 ∷ 128 ∷ 0 ∷ 0 ∷ 63 ∷ 128 ∷ 0 ∷ 0 ∷ 63 ∷ 128 ∷ 0 ∷ 0 ∷ 0 ∷ []))
unfolding writer_computed
wall = refl

-- ---- "fewer" is told at its field, "more" behind the lines

abbrev pub told_wall : List Float → ℕ → List Float → Fault
told_wall xs m ls = parts_fault cart 1 (2 ∷ []) (2 ∷ []) xs m ls

pub order :
    (told_wall (nan ∷ 0ᶠ ∷ 0ᶠ ∷ []) 0 [] ∷ told_wall (0ᶠ ∷ 0ᶠ ∷ 0ᶠ ∷ []) 0 [] ∷ told_wall (0ᶠ ∷ 0ᶠ ∷ 1ᶠ ∷ 0ᶠ ∷ 0ᶠ ∷ []) 1
    (nan ∷ 0ᶠ ∷ 1ᶠ ∷ 0ᶠ ∷ []) ∷ told_wall (0ᶠ ∷ 0ᶠ ∷ 1ᶠ ∷ 0ᶠ ∷ 0ᶠ ∷ []) 1 (0ᶠ ∷ 1ᶠ ∷ 1ᶠ ∷ 0ᶠ ∷ [])
    ∷ told_wall (0ᶠ ∷ 0ᶠ ∷ 1ᶠ ∷ 0ᶠ ∷ []) 1 (0ᶠ ∷ 1ᶠ ∷ 1ᶠ ∷ 1ᶠ ∷ []) ∷ told_wall (0ᶠ ∷ 0ᶠ ∷ 1ᶠ ∷ 0ᶠ ∷ []) 1
    (0ᶠ ∷ 1ᶠ ∷ 1ᶠ ∷ []) ∷ told_wall (0ᶠ ∷ 0ᶠ ∷ 1ᶠ ∷ 0ᶠ ∷ []) 65 [] ∷ parts_fault cart 0 (1 ∷ []) [] [] 0 []
    ∷ parts_fault cart 0 [] [] [] 0 (0ᶠ ∷ []) ∷ [])
    ≡ (fault 6 ∷ fault 2 ∷ fault 6 ∷ fault 2 ∷ fault 7 ∷ fault 2 ∷ fault 4 ∷ fault 2 ∷ fault 2 ∷ [])
unfolding writer_computed
order = refl

-- 02, T-11: 14 at the second vertex, before the lines, what is left over and a short buffer
pub doubled :
    (told_wall (0ᶠ ∷ 0ᶠ ∷ bits 0x8000_0000 ∷ 0ᶠ ∷ 0ᶠ ∷ []) 65 [] ∷ parts_fault cart 1 (1 ∷ []) (1 ∷ [])
    (0ᶠ ∷ 0ᶠ ∷ []) 0 [] ∷ told_wall (0ᶠ ∷ 0ᶠ ∷ 0ᶠ ∷ nan ∷ []) 0 [] ∷ [])
    ≡ (fault 14 ∷ fault 14 ∷ fault 6 ∷ [])
unfolding writer_computed
doubled = refl
