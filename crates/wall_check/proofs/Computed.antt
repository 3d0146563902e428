-- Moves over a few edges, checked by computing: ends, corners, both sides, parallel by an exact 0, and the order of
-- refusals. Assumes nothing.
use mathlib.Core.Path.{◌≡◌, refl}
use mathlib.Core.Bool.{false}
use mathlib.Core.List.{[], ◌∷◌}
use Rattle.std.specs.Prelude.{Some, None}
use lib.Ieee.{Float, nan, inf}
use Rattle.arithmetic.specs.Binary32.{bits, 0ᶠ, 1ᶠ}
use Rattle.common.specs.declared.Vec2.{Vec2}
use Rattle.common.specs.Vectors.{vec}
use Rattle.common.specs.Meetings.{times_of}
use Rattle.obstacles.proofs.Computed.{computed}
use Rattle.layouts.proofs.Computed.{layouts_computed, alternating}
use Rattle.wall_check.specs.Crossings.{WallCheck, crossed, clear, refused, are_within, crosses, walls_from, own_walls, walls_of, crossed_in, found_in, move_fault, checked_move}

unfoldable pub checks_computed : Unit {0}
unfolding computed layouts_computed times_of are_within crosses walls_from own_walls walls_of crossed_in found_in move_fault checked_move
checks_computed = tt

abbrev -1ᶠ : Float
-1ᶠ = bits 0xBF80_0000

abbrev halfᶠ : Float
halfᶠ = bits 0x3F00_0000

abbrev 2ᶠ : Float
2ᶠ = bits 0x4000_0000

abbrev -2ᶠ : Float
-2ᶠ = bits 0xC000_0000

abbrev 3ᶠ : Float
3ᶠ = bits 0x4040_0000

abbrev 4ᶠ : Float
4ᶠ = bits 0x4080_0000

-- over the open wall (-1,1), (1,1)
abbrev over_wall : Vec2 → Vec2 → WallCheck
over_wall from to = checked_move from to 1 (2 ∷ []) (2 ∷ []) (-1ᶠ ∷ 1ᶠ ∷ 1ᶠ ∷ 1ᶠ ∷ [])

abbrev at_rest : Vec2
at_rest = vec 0ᶠ 0ᶠ

-- ends are counted; 0.99999994 stops short; a move of no length, one beside the wall and one along it are parallel
pub ends :
    (over_wall at_rest (vec 0ᶠ 2ᶠ)
    ∷ over_wall at_rest (vec 0ᶠ 1ᶠ)
    ∷ over_wall at_rest (vec 0ᶠ (bits 0x3F7F_FFFF))
    ∷ over_wall at_rest (vec 2ᶠ 2ᶠ)
    ∷ over_wall at_rest at_rest
    ∷ over_wall at_rest (vec 2ᶠ 0ᶠ)
    ∷ over_wall (vec -2ᶠ 1ᶠ) (vec 2ᶠ 1ᶠ)
    ∷ [])
    ≡ (crossed 0 0 1 ∷ crossed 0 0 1 ∷ clear ∷ crossed 0 0 1 ∷ clear ∷ clear
    ∷ clear ∷ [])
unfolding checks_computed
ends = refl

-- both ways, the wall turned, and from the wall away: a time of -0 lies from 0 to 1
pub turned :
    (over_wall (vec 0ᶠ 2ᶠ) at_rest
    ∷ checked_move at_rest (vec 0ᶠ 2ᶠ) 1 (2 ∷ []) (2 ∷ []) (1ᶠ ∷ 1ᶠ ∷ -1ᶠ ∷ 1ᶠ ∷ [])
    ∷ over_wall (vec 0ᶠ 1ᶠ) (vec 0ᶠ 3ᶠ)
    ∷ over_wall (vec 0ᶠ 1ᶠ) (vec 0ᶠ -1ᶠ)
    ∷ over_wall (vec -1ᶠ 0ᶠ) (vec -1ᶠ 1ᶠ)
    ∷ [])
    ≡ (crossed 0 0 1 ∷ crossed 0 0 1 ∷ crossed 0 0 1 ∷ crossed 0 0 1 ∷ crossed 0 0 1 ∷ [])
unfolding checks_computed
turned = refl

-- 192 edges at once: three closed obstacles whose vertices are (0,0) and (1,0) by turns
pub most-crossed : checked_move (vec halfᶠ -1ᶠ) (vec halfᶠ 1ᶠ) 3 (1 ∷ 1 ∷ 1 ∷ []) (64 ∷ 64 ∷ 64 ∷ []) (alternating 96)
    ≡ crossed 0 0 192
unfolding checks_computed
most-crossed = refl

-- all edges count: both of a closed pair, both at a corner, the closing one
pub edges-counted :
    (checked_move at_rest (vec 0ᶠ 2ᶠ) 1 (1 ∷ []) (2 ∷ []) (-1ᶠ ∷ 1ᶠ ∷ 1ᶠ ∷ 1ᶠ ∷ [])
    ∷ checked_move at_rest (vec 2ᶠ 2ᶠ) 1 (1 ∷ []) (4 ∷ []) (1ᶠ ∷ 1ᶠ ∷ 3ᶠ ∷ 1ᶠ ∷ 3ᶠ ∷ 3ᶠ ∷ 1ᶠ ∷ 3ᶠ ∷ [])
    ∷ checked_move (vec 0ᶠ 2ᶠ) (vec 4ᶠ 2ᶠ) 1 (1 ∷ []) (4 ∷ []) (1ᶠ ∷ 1ᶠ ∷ 3ᶠ ∷ 1ᶠ ∷ 3ᶠ ∷ 3ᶠ ∷ 1ᶠ ∷ 3ᶠ ∷ [])
    ∷ checked_move at_rest (vec 0ᶠ 2ᶠ) 2 (1 ∷ 2 ∷ []) (0 ∷ 2 ∷ []) (-1ᶠ ∷ 1ᶠ ∷ 1ᶠ ∷ 1ᶠ ∷ [])
    ∷ [])
    ≡ (crossed 0 0 2 ∷ crossed 0 0 2 ∷ crossed 0 1 2 ∷ crossed 1 0 1 ∷ [])
unfolding checks_computed
edges-counted = refl

-- no edge
pub edges_none :
    (checked_move at_rest (vec 0ᶠ 2ᶠ) 1 (1 ∷ []) (0 ∷ []) []
    ∷ checked_move at_rest (vec 0ᶠ 2ᶠ) 1 (2 ∷ []) (1 ∷ []) (0ᶠ ∷ 1ᶠ ∷ [])
    ∷ checked_move at_rest (vec 0ᶠ 2ᶠ) 0 [] [] []
    ∷ [])
    ≡ (clear ∷ clear ∷ clear ∷ [])
unfolding checks_computed
edges_none = refl

-- the determinant that is computed decides: 2 ^ -80 underflows to 0, 2 ^ -75 does not; an infinite time is outside
pub computed-determinant :
    (checked_move (vec (bits 0x9780_0000) 0ᶠ) (vec (bits 0x1780_0000) 0ᶠ) 1 (2 ∷ []) (2 ∷ []) (0ᶠ ∷ bits 0x9780_0000 ∷ 0ᶠ
    ∷ bits 0x1780_0000 ∷ [])
    ∷ checked_move (vec (bits 0x9A00_0000) 0ᶠ) (vec (bits 0x1A00_0000) 0ᶠ) 1 (2 ∷ []) (2 ∷ []) (0ᶠ ∷ bits 0x9A00_0000
    ∷ 0ᶠ ∷ bits 0x1A00_0000 ∷ [])
    ∷ checked_move at_rest (vec (bits 1) 0ᶠ) 1 (2 ∷ []) (2 ∷ []) (bits 0xC780_0000 ∷ -1ᶠ ∷ bits 0xC780_0000 ∷ 1ᶠ ∷ [])
    ∷ [])
    ≡ (clear ∷ crossed 0 0 1 ∷ clear ∷ [])
unfolding checks_computed
computed-determinant = refl

-- the times themselves, along the move and along the wall: 1.0000001 is one step above 1
pub times-told :
    (times_of at_rest (vec 0ᶠ 2ᶠ) (vec -1ᶠ 1ᶠ) (vec 1ᶠ 1ᶠ)
    ∷ times_of at_rest (vec 0ᶠ 1ᶠ) (vec -1ᶠ 1ᶠ) (vec 1ᶠ 1ᶠ)
    ∷ times_of at_rest (vec 0ᶠ (bits 0x3F7F_FFFF)) (vec -1ᶠ 1ᶠ) (vec 1ᶠ 1ᶠ)
    ∷ times_of at_rest (vec 2ᶠ 2ᶠ) (vec -1ᶠ 1ᶠ) (vec 1ᶠ 1ᶠ)
    ∷ times_of at_rest (vec 2ᶠ 0ᶠ) (vec -1ᶠ 1ᶠ) (vec 1ᶠ 1ᶠ)
    ∷ [])
    ≡ (Some (vec halfᶠ halfᶠ) ∷ Some (vec 1ᶠ halfᶠ) ∷ Some (vec (bits 0x3F80_0001) halfᶠ)
    ∷ Some (vec halfᶠ 1ᶠ) ∷ None ∷ [])
unfolding checks_computed
times-told = refl

-- the port answers for any input: a NaN determinant is not 0
pub times-of-any : times_of (vec (inf false) 0ᶠ) at_rest at_rest (vec 1ᶠ 1ᶠ) ≡ Some (vec nan nan)
unfolding checks_computed
times-of-any = refl

-- the two positions are judged first, then the layout, then what is left over
pub refusals :
    (checked_move (vec nan 0ᶠ) at_rest 17 [] [] []
    ∷ checked_move at_rest (vec 0ᶠ (bits 0x4780_0001)) 17 [] [] []
    ∷ checked_move at_rest (vec 0ᶠ (bits 0x4780_0000)) 17 [] [] []
    ∷ checked_move at_rest (vec 0ᶠ 2ᶠ) 1 (3 ∷ []) [] []
    ∷ checked_move at_rest (vec 0ᶠ 2ᶠ) 1 (2 ∷ []) (0 ∷ []) []
    ∷ checked_move at_rest (vec 0ᶠ 2ᶠ) 1 (2 ∷ []) (2 ∷ []) (-1ᶠ ∷ 1ᶠ ∷ 1ᶠ ∷ [])
    ∷ checked_move at_rest (vec 0ᶠ 2ᶠ) 1 (2 ∷ []) (2 ∷ []) (-1ᶠ ∷ nan ∷ 1ᶠ ∷ [])
    ∷ checked_move at_rest (vec 0ᶠ 2ᶠ) 1 (2 ∷ []) (2 ∷ []) (-1ᶠ ∷ 1ᶠ ∷ 1ᶠ ∷ 1ᶠ ∷ 0ᶠ ∷ [])
    ∷ [])
    ≡ (refused 6 ∷ refused 6 ∷ refused 4 ∷ refused 3 ∷ refused 5 ∷ refused 2
    ∷ refused 6 ∷ refused 2 ∷ [])
unfolding checks_computed
refusals = refl

-- 02, T-11: "The scene writer and the wall check refuse alike": 14 behind the positions, before what is left over
pub doubled :
    (checked_move (vec nan 0ᶠ) at_rest 1 (1 ∷ []) (1 ∷ []) (0ᶠ ∷ 1ᶠ ∷ [])
    ∷ checked_move at_rest (vec 0ᶠ 2ᶠ) 1 (1 ∷ []) (1 ∷ []) (0ᶠ ∷ 1ᶠ ∷ [])
    ∷ checked_move at_rest (vec 0ᶠ 2ᶠ) 1 (2 ∷ []) (2 ∷ []) (-1ᶠ ∷ 1ᶠ ∷ -1ᶠ ∷ 1ᶠ ∷ 0ᶠ ∷ [])
    ∷ [])
    ≡ (refused 6 ∷ refused 14 ∷ refused 14 ∷ [])
unfolding checks_computed
doubled = refl
