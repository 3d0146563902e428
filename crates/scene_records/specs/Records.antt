-- 01, "Records": a whole scene record, and the scene that it is read to. Definitions only. Assumes nothing.
use Rattle.std.specs.Prelude.{ℕ, ◌-◌, List, length, leb, eqb, Float, Result, Ok, Err}
use Rattle.std.proofs.lemmas.List.Edits.{sets}
use Rattle.arithmetic.specs.Binary32.{0ᶠ}
use Rattle.admission.specs.declared.refusal.Refusal.{Refusal}
use Rattle.admission.specs.Refusals.{refusal_of}
use Rattle.common.specs.Vectors.{zero_vector}
use Rattle.lines.specs.declared.Line.{Line}
use Rattle.lines.specs.Lines.{four_of}
use Rattle.obstacles.specs.Read.{blank_numbers}
use Rattle.dodgy_2d.specs.declared.Scene.{Scene}
use Rattle.dodgy_2d.specs.Scenes.{most_obstacles, most_neighbours}
use Rattle.fields.specs.Bytes.{each}
use Rattle.fields.specs.Got.{Got, refused, got, then, guard, word}
use Rattle.scene_records.specs.declared.Cart.{Cart}
use Rattle.scene_records.specs.Steps.{scene_version, version, count, ended}
use Rattle.scene_records.specs.Parts.{cart, cart_of, Obstacle, obstacles, neighbours, Walls, walls, walls_with, blank_bytes, blank_vertices}

-- ---- the scene of what was read: zeros behind what the counts say

abbrev pub scene_with : Cart → ℕ → Walls → ℕ → List Float → Scene
scene_with c n w m lines = record {
  agent = c.agent;
  margin = c.margin;
  horizon = c.horizon;
  wish = c.wish;
  limit = c.limit;
  obstacles = n;
  kinds = w.kinds;
  counts = w.counts;
  vertices = w.vertices;
  neighbours = m;
  lines = lines;
}

abbrev pub no_walls : Walls
no_walls = walls blank_bytes blank_bytes blank_vertices

abbrev pub scene_of : Cart → ℕ → List Obstacle → ℕ → List Line → Scene
scene_of c n os m ls = scene_with c n (walls_with no_walls 0 0 os) m (sets blank_numbers 0 (each four_of ls))

abbrev pub blank_cart : Cart
blank_cart = cart_of zero_vector zero_vector 0ᶠ 0ᶠ zero_vector 0ᶠ

abbrev pub blank_scene : Scene
blank_scene = scene_with blank_cart 0 no_walls 0 blank_numbers

-- ---- the reading

-- the fields behind the length
unfoldable pub fields_in : List ℕ → ℕ → Got Scene
fields_in s at =
    then (version scene_version s at) λ u a.
    then (cart s a) λ c b.
    then (count most_obstacles s b) λ n d.
    then (obstacles s n 0 d) λ os e.
    then (count most_neighbours s e) λ m f.
    then (neighbours s m f) λ ls g.
    then (ended s g) λ v h.
    got (scene_of c n os m ls) h

-- "a record's length field is over 2,631"
abbrev pub longest_rest : ℕ
longest_rest = 2631

-- "fewer than two bytes, 2; length field over 2,631, 4; length not matching the rest, 2"; for a reader whose longest
-- rest is `most`
unfoldable pub announced : ℕ → List ℕ → Got (Unit {0})
announced most s = then (word 2 s 0) λ n a. guard (leb n most) 4 (guard (eqb n (length s - 2)) 2 (got tt a))

-- 01's record, which has version 1
unfoldable pub scene_in_version1 : List ℕ → Got Scene
scene_in_version1 s = then (announced longest_rest s) λ u a. fields_in s a

-- what the code hands over: the scene, or the refusal
abbrev pub read_as : Got Scene → Result Scene Refusal
read_as (refused r) = Err (refusal_of r)
read_as (got c at) = Ok c
