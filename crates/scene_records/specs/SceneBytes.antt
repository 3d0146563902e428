-- 01, "Records": the bytes of a scene. Definitions only. Assumes nothing.
use Rattle.std.specs.Prelude.{ℕ, ◌*◌, List, [], ◌∷◌, ◌++◌, length, take, drop, Float}
use Rattle.std.specs.Float.{binary32}
use Rattle.std.specs.Float.Ieee.{to_bits}
use Rattle.admission.specs.declared.Head.{Head}
use Rattle.common.specs.declared.Vec2.{Vec2}
use Rattle.lines.specs.declared.Line.{Line}
use Rattle.obstacles.specs.Vertices.{vertices_of}
use Rattle.dodgy_2d.specs.declared.Scene.{Scene}
use Rattle.dodgy_2d.specs.Scenes.{heads_in, neighbours_in}
use Rattle.fields.specs.Bytes.{big_endian, each}
use Rattle.scene_records.specs.declared.Cart.{Cart}
use Rattle.scene_records.specs.Steps.{scene_version}
use Rattle.scene_records.specs.Parts.{Obstacle}

-- ---- the parts of a scene

abbrev pub cart_in : Scene → Cart
cart_in c = record { agent = c.agent; margin = c.margin; horizon = c.horizon; wish = c.wish; limit = c.limit }

-- each obstacle with its own vertices, two numbers a vertex, obstacle behind obstacle
unfoldable pub with_vertices : List Head → List Float → List Obstacle
with_vertices [] xs = []
with_vertices (h ∷ hs) xs =
    record { kind = h.kind; vertices = vertices_of (take (2 * h.count) xs) } ∷ with_vertices hs (drop (2 * h.count) xs)

abbrev pub obstacles_in : Scene → List Obstacle
obstacles_in c = with_vertices (heads_in c) c.vertices

-- ---- their bytes

unfoldable pub number_bytes : Float → List ℕ
number_bytes x = big_endian 4 (to_bits binary32 x)

unfoldable pub vector_bytes : Vec2 → List ℕ
vector_bytes v = number_bytes v.x ++ number_bytes v.y

unfoldable pub cart_bytes : Cart → List ℕ
cart_bytes c =
    vector_bytes c.agent.position ++ vector_bytes c.agent.velocity ++ number_bytes c.margin
    ++ number_bytes c.horizon ++ vector_bytes c.wish
    ++ number_bytes c.limit

unfoldable pub obstacle_bytes : Obstacle → List ℕ
obstacle_bytes o = big_endian 1 o.kind ++ big_endian 1 (length o.vertices) ++ each vector_bytes o.vertices

unfoldable pub line_bytes : Line → List ℕ
line_bytes l = vector_bytes l.point ++ vector_bytes l.direction

-- version, cart, obstacles, neighbour lines
unfoldable pub body_bytes : Cart → List Obstacle → List Line → List ℕ
body_bytes c os ls = big_endian 1 scene_version ++ cart_bytes c ++ big_endian 1 (length os) ++ each obstacle_bytes os
    ++ big_endian 1 (length ls) ++ each line_bytes ls

-- "two-byte length of the rest", then the rest
unfoldable pub record_bytes : Cart → List Obstacle → List Line → List ℕ
record_bytes c os ls = big_endian 2 (length (body_bytes c os ls)) ++ body_bytes c os ls

abbrev pub scene_bytes : Scene → List ℕ
scene_bytes c = record_bytes (cart_in c) (obstacles_in c) (neighbours_in c)
