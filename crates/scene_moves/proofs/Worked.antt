-- T-07's examples moved by the definition. Assumes nothing.
use Prim.Native.Nat.{ℕ}
use mathlib.Core.Path.{◌≡◌, refl}
use mathlib.Core.List.{List, [], ◌∷◌, ◌++◌}
use lib.ListN.{drop, replicate}
use Rattle.admission.specs.Faults.{fine, fault, within, inside}
use Rattle.fields.specs.Bytes.{big_endian_from, big_endian_number, big_endian}
use Rattle.fields.specs.Got.{refused, got, word, many}
use Rattle.lines.proofs.Computed.{computed}
use Rattle.scene_records.specs.declared.Version.TheVariants.{One, Two}
use Rattle.scene_records.specs.Steps.{version, count, number, vector, ended}
use Rattle.scene_records.specs.Parts.{cart, obstacles, neighbour}
use Rattle.scene_records.specs.Records.{announced}
use Rattle.scene_records.specs.Versions.{line_number, numbered_line, numbered_lines, fields_with, behind_version, record_with}
use Rattle.scene_writer.specs.Writing.{written, laid_scene}
use Rattle.scene_moves.specs.Moves.{number_bytes, moved_lines, moved_bytes, all_zero, moved, moved_into}

unfoldable moves_computed : Unit {0}
unfolding computed within inside big_endian_from big_endian_number big_endian word many version count number vector ended
    cart
    obstacles neighbour announced line_number numbered_line numbered_lines fields_with behind_version record_with number_bytes
    moved_lines moved_bytes all_zero moved moved_into laid_scene
moves_computed = tt

-- the cart of docs/RECORDS.md, and the line (0, 1), (1, 0)
abbrev the_cart : List ℕ
the_cart = replicate 20 0 ++ (0x3F ∷ 0x80 ∷ 0 ∷ 0 ∷ []) ++ replicate 12 0

abbrev the_line : List ℕ
the_line = 0 ∷ 0 ∷ 0 ∷ 0 ∷ 0x3F ∷ 0x80 ∷ 0 ∷ 0 ∷ 0x3F ∷ 0x80 ∷ 0 ∷ 0 ∷ 0 ∷ 0 ∷ 0 ∷ 0 ∷ []

abbrev alone : ℕ → List ℕ
alone v = (0 ∷ 0x27 ∷ v ∷ []) ++ the_cart ++ (0 ∷ 0 ∷ [])

abbrev first : List ℕ
first = (0 ∷ 0x37 ∷ 1 ∷ []) ++ the_cart ++ (0 ∷ 1 ∷ []) ++ the_line

abbrev second : ℕ → List ℕ
second n = (0 ∷ 0x3B ∷ 2 ∷ []) ++ the_cart ++ (0 ∷ 1 ∷ 0 ∷ 0 ∷ 0 ∷ n ∷ []) ++ the_line

-- without a neighbour only the version byte differs
pub none-moved : (moved One Two (alone 1) ∷ moved Two One (alone 2) ∷ []) ≡ got (alone 2) 41 ∷ got (alone 1) 41 ∷ []
unfolding moves_computed
none-moved = refl

-- a line there and back
pub line-moved : (moved One Two first ∷ moved Two One (second 0) ∷ []) ≡ got (second 0) 57 ∷ got first 61 ∷ []
unfolding moves_computed
line-moved = refl

-- a number that would be lost; behind it, the length put right, a byte left over
pub number-lost : (moved Two One (second 7) ∷ moved Two One ((0 ∷ 0x3C ∷ []) ++ drop 2 (second 7) ++ (0 ∷ [])) ∷ [])
    ≡ refused 11 ∷ refused 2 ∷ []
unfolding moves_computed
number-lost = refl

-- from the wrong version, told before a NaN; from its own, the NaN
pub wrong-version : (moved One Two (0 ∷ 5 ∷ 2 ∷ 0x7F ∷ 0xC0 ∷ 0 ∷ 0 ∷ []) ∷ moved Two One
    (0 ∷ 5 ∷ 2 ∷ 0x7F ∷ 0xC0 ∷ 0 ∷ 0 ∷ []) ∷ []) ≡ refused 1 ∷ refused 6 ∷ []
unfolding moves_computed
wrong-version = refl

-- 11 before 10, and 10 up to 56 bytes of buffer
pub short-target : (moved_into Two One (second 7) [] ∷ moved_into Two One (second 0)
    (replicate 56 9) ∷ moved_into Two One (second 0) (replicate 58 9) ∷ [])
    ≡ written (fault 11) 0 [] ∷ written (fault 10) 0 (replicate 56 9) ∷ written fine 57 (first ++ (9 ∷ [])) ∷ []
unfolding moves_computed
short-target = refl
