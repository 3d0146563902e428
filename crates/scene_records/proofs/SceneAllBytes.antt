-- Law: the bytes of a scene are bytes, whatever the scene. Assumes nothing.
use Prim.Native.Nat.{ℕ}
use mathlib.Core.List.{List, ◌++◌}
use lib.ListN.{length}
use lib.Ieee.{Float, binary32, to_bits}
use Rattle.common.specs.declared.Vec2.{Vec2}
use Rattle.lines.specs.declared.Line.{Line}
use Rattle.dodgy_2d.specs.declared.Scene.{Scene}
use Rattle.dodgy_2d.specs.Scenes.{neighbours_in}
use Rattle.fields.specs.Bytes.{big_endian, each, AllBytes}
use Rattle.fields.proofs.ByteLaws.{big-endian-bytes, append-bytes, each-bytes}
use Rattle.scene_records.specs.declared.Cart.{Cart}
use Rattle.scene_records.specs.Parts.{Obstacle}
use Rattle.scene_records.specs.SceneBytes.{cart_in, obstacles_in, number_bytes, vector_bytes, cart_bytes, obstacle_bytes, line_bytes, body_bytes, record_bytes, scene_bytes}

-- a record, so that the list is found from a proof of it
record AreBytes (l : List ℕ) : Type 0 where
  are : AllBytes l

word_bytes : (w x : ℕ) → AreBytes (big_endian w x)
word_bytes w x = record { are = big-endian-bytes w x }

infixl 20 ◌behind◌
◌behind◌ : {k l : List ℕ} → AreBytes k → AreBytes l → AreBytes (k ++ l)
◌behind◌ {k} {l} p q = record { are = append-bytes k l p.are q.are }

all-bytes : {A : Type 0} (bytes : A → List ℕ) → ((a : A) → AreBytes (bytes a)) → (l : List A) → AreBytes (each bytes l)
all-bytes bytes h l = record { are = each-bytes bytes (λ a. (h a).are) l }

number-bytes : (x : Float) → AreBytes (number_bytes x)
unfolding number_bytes
number-bytes x = word_bytes 4 (to_bits binary32 x)

vector-bytes : (v : Vec2) → AreBytes (vector_bytes v)
unfolding vector_bytes
vector-bytes v = number-bytes v.x behind number-bytes v.y

cart-bytes : (x : Cart) → AreBytes (cart_bytes x)
unfolding cart_bytes
cart-bytes x =
    vector-bytes x.agent.position behind vector-bytes x.agent.velocity behind number-bytes
    x.margin behind number-bytes x.horizon behind vector-bytes x.wish
    behind number-bytes x.limit

obstacle-bytes : (o : Obstacle) → AreBytes (obstacle_bytes o)
unfolding obstacle_bytes
obstacle-bytes o = word_bytes 1 o.kind behind word_bytes 1 (length o.vertices) behind all-bytes vector_bytes
    vector-bytes o.vertices

line-bytes : (l : Line) → AreBytes (line_bytes l)
unfolding line_bytes
line-bytes l = vector-bytes l.point behind vector-bytes l.direction

body_bytes_lem : (x : Cart) (os : List Obstacle) (ls : List Line) → AreBytes (body_bytes x os ls)
unfolding body_bytes
body_bytes_lem x os ls =
    word_bytes 1 1 behind cart-bytes x behind word_bytes 1 (length os) behind all-bytes obstacle_bytes obstacle-bytes os
    behind word_bytes 1 (length ls)
    behind all-bytes line_bytes line-bytes ls

record-bytes : (x : Cart) (os : List Obstacle) (ls : List Line) → AreBytes (record_bytes x os ls)
unfolding record_bytes
record-bytes x os ls = word_bytes 2 (length (body_bytes x os ls)) behind body_bytes_lem x os ls

pub scene-all-bytes : (c : Scene) → AllBytes (scene_bytes c)
scene-all-bytes c = (record-bytes (cart_in c) (obstacles_in c) (neighbours_in c)).are
