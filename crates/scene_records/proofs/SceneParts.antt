-- The parts that a scene was made from are found in it again. Assumes nothing.
use Prim.Native.Nat.{ℕ, ◌*◌, ◌≤◌}
use native.Mathlib.Omega.{arith}
use native.Mathlib.Nat.{zero-add}
use mathlib.Core.Path.{◌≡◌, refl}
use mathlib.Core.List.{List, [], ◌∷◌, ◌++◌, map, append_assoc}
use lib.ListN.{length, take, drop, length-map}
use lib.Seq.{sets, sets-eq, take_at, drop_at}
use lib.Ieee.{Float}
use Rattle.lines.specs.declared.Line.{Line}
use Rattle.lines.specs.Lines.{lines_of, four_of, numbers_of}
use Rattle.lines.proofs.Rows.{lines-append}
use Rattle.obstacles.specs.Read.{blank_numbers}
use Rattle.lines.proofs.Numbers.{lines-back, numbers-long}
use Rattle.dodgy_2d.specs.Scenes.{heads_of, heads_in, neighbours_in}
use Rattle.fields.specs.Bytes.{each}
use Rattle.scene_records.specs.declared.Cart.{Cart}
use Rattle.scene_records.specs.Parts.{Obstacle, size_of, kind_of, numbers_in, blank_bytes, blank_vertices}
use Rattle.scene_records.specs.Records.{scene_of}
use Rattle.scene_records.specs.SceneBytes.{with_vertices, obstacles_in}
use Rattle.scene_records.proofs.WallLaws.{length-coordinates, vertices-back}

-- values stored from the start on stand in front
stored-front : {A : Type 0} (l xs : List A) → length xs ≤ length l → sets l 0 xs ≡ xs ++ drop (length xs) l
stored-front l xs h = rw zero-add at (sets-eq xs l 0 (omega arith))

pub front-back : {A : Type 0} (l xs : List A) → length xs ≤ length l → take (length xs) (sets l 0 xs) ≡ xs
front-back l xs h = rw (stored-front l xs h) (take_at xs (drop (length xs) l) (length xs) refl)

-- ---- obstacles

-- an obstacle's own vertices stand in front of those behind it
pub own-vertices : (o : Obstacle) (more : List Float) → take (2 * size_of o) (numbers_in o ++ more) ≡ numbers_in o
own-vertices o more = take_at (numbers_in o) more (2 * size_of o) (length-coordinates o.vertices)

pub later-vertices : (o : Obstacle) (more : List Float) → drop (2 * size_of o) (numbers_in o ++ more) ≡ more
later-vertices o more = drop_at (numbers_in o) more (2 * size_of o) (length-coordinates o.vertices)

walls-back : (os : List Obstacle) (rest : List Float) →
    with_vertices (heads_of (map kind_of os) (map size_of os)) (each numbers_in os ++ rest) ≡ os
unfolding with_vertices heads_of each
walls-back [] rest = refl
walls-back (o ∷ os) rest =
    rw (
      append_assoc (numbers_in o) (each numbers_in os) rest,
      own-vertices o (each numbers_in os ++ rest),
      later-vertices o (each numbers_in os ++ rest),
      vertices-back o.vertices,
      walls-back os rest,
    )

pub vertices-front : (os : List Obstacle) → length (each numbers_in os) ≤ 384 → sets blank_vertices 0 (each numbers_in os)
    ≡ each numbers_in os ++ drop (length (each numbers_in os)) blank_vertices
unfolding blank_vertices
vertices-front os h = stored-front blank_vertices (each numbers_in os) h

module _ (x : Cart) (os : List Obstacle) (m : ℕ) (ls : List Line) (few : length os ≤ 16) where
  pub heads-back : heads_in (scene_of x (length os) os m ls) ≡ heads_of (map kind_of os) (map size_of os)
  unfolding blank_bytes
  heads-back =
      let kinds : take (length os) (sets blank_bytes 0 (map kind_of os)) ≡ map kind_of os =
      rw (← length-map os kind_of) (front-back blank_bytes (map kind_of os) (rw (length-map os kind_of) few)) in
      let counts : take (length os) (sets blank_bytes 0 (map size_of os)) ≡ map size_of os =
      rw (← length-map os size_of) (front-back blank_bytes (map size_of os) (rw (length-map os size_of) few)) in
      rw (kinds, counts)

  pub obstacles-back : length (each numbers_in os) ≤ 384 → obstacles_in (scene_of x (length os) os m ls) ≡ os
  obstacles-back h = rw (heads-back, vertices-front os h) (walls-back os _)

-- ---- neighbour lines

each-four : (ls : List Line) → each four_of ls ≡ numbers_of ls
unfolding each numbers_of
each-four [] = refl
each-four (l ∷ ls) = rw (each-four ls)

lines-found : (ls : List Line) (rest : List Float) → take (length ls) (lines_of (each four_of ls ++ rest)) ≡ ls
lines-found ls rest = rw (each-four ls, lines-append (numbers_of ls) rest (rw numbers-long (omega arith)), lines-back ls)
    (take_at ls (lines_of rest) (length ls) refl)

pub neighbours-back : (x : Cart) (n : ℕ) (os : List Obstacle) (ls : List Line) → length ls ≤ 64 →
    neighbours_in (scene_of x n os (length ls) ls) ≡ ls
unfolding blank_numbers
neighbours-back x n os ls few =
    let h : length (each four_of ls) ≤ 256 = rw (each-four ls, numbers-long ls) (omega arith) in
    rw (stored-front blank_numbers (each four_of ls) h) (lines-found ls _)
