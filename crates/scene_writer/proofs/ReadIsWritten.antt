-- Law: every record that the reader accepts is written again to the same bytes. Assumes nothing.
use Prim.Native.Nat.{ℕ, ◌*◌, ◌≤◌}
use native.Mathlib.Omega.{arith}
use mathlib.Core.Path.{◌≡◌, sym, ap, ◌∙◌}
use mathlib.Core.List.{List, ◌++◌, map}
use lib.ListN.{length, take, drop, take-append-drop}
use lib.Seq.{length-take-le, take-take, length-sets}
use lib.Ieee.{Float}
use borrow.Author.Tests.{le-leb}
use Rattle.admission.specs.Faults.{Fault, fine}
use Rattle.lines.specs.Lines.{lines_of, four_of}
use Rattle.lines.specs.LineFaults.{lines_fault}
use Rattle.lines.proofs.Rows.{lines-take}
use Rattle.obstacles.specs.Read.{blank_numbers}
use Rattle.dodgy_2d.specs.declared.Scene.{Scene}
use Rattle.dodgy_2d.specs.Scenes.{heads_in, neighbours_in, most_obstacles, most_neighbours, obstacles_fault, scene_fault}
use Rattle.dodgy_2d.specs.Scenes as scenes
use Rattle.dodgy_2d.proofs.ScenePasses.{Parts, parts}
use Rattle.fields.specs.Bytes.{AllBytes, each}
use Rattle.fields.specs.Got.{got}
use Rattle.layouts.specs.Layouts.{lent_fault, layout_fault, vertex_total, left_fault}
use Rattle.scene_records.specs.Parts.{size_of, kind_of, numbers_in, blank_bytes, blank_vertices}
use Rattle.scene_records.specs.Records.{scene_in_version1}
use Rattle.scene_records.specs.SceneBytes.{cart_in, with_vertices, obstacles_in, scene_bytes}
use Rattle.scene_records.proofs.Taken.{scene-taken-version-1, fields-taken}
use Rattle.scene_records.proofs.ReadBytes.{accepted-is-bytes-version-1}
use Rattle.scene_records.proofs.ReadAdmitted.{read-admitted-version-1}
use Rattle.scene_writer.specs.Writing.{cart_fault, lent_lines_fault, neighbours_fault, rest_fault, parts_fault, lent_obstacles, lent_bytes, kinds_in, counts_in, vertices_in, lines_in, written, laid_scene, written_scene}
use Rattle.scene_writer.proofs.SameFaults.{lines-there, lent-there, vertices-cut, fault-cut, few-together}

-- what every value of the code's type has: its arrays have their lengths
pub record Sized (c : Scene) : Type 0 where
  pub kinds : length c.kinds ≡ 16
  pub counts : length c.counts ≡ 16
  pub vertices : length c.vertices ≡ 384
  pub lines : length c.lines ≡ 256

read-sized : (s : List ℕ) (c : Scene) (m : ℕ) → scene_in_version1 s ≡ got c m → Sized c
unfolding blank_bytes blank_vertices blank_numbers
read-sized s c m z =
    scene-taken-version-1 s c m z λ n read-n few-n right z'.
    fields-taken s 2 c m z' λ a b d e f x os ls read-version read-cart read-os few-os list-os read-ls few-ls list-ls end same.
    rw same (record {
      kinds = length-sets blank_bytes 0 (map kind_of os);
      counts = length-sets blank_bytes 0 (map size_of os);
      vertices = length-sets blank_vertices 0 (each numbers_in os);
      lines = length-sets blank_numbers 0 (each four_of ls);
    })

-- ---- a scene's parts, lent up to its counts

module _ (c : Scene) (z : Sized c) (e : scene_fault c ≡ fine) where
  abbrev p : Parts c
  p = parts c e

  kinds-long : length (kinds_in c) ≡ c.obstacles
  kinds-long = length-take-le c.obstacles c.kinds (rw z.kinds p.obstacles)

  counts-long : length (counts_in c) ≡ c.obstacles
  counts-long = length-take-le c.obstacles c.counts (rw z.counts p.obstacles)

  abbrev total : ℕ
  total = vertex_total c.obstacles (counts_in c)

  total-few : total ≤ 192
  total-few =
      let h = few-together 0 c.obstacles (kinds_in c) (counts_in c) c.vertices kinds-long counts-long (omega arith)
      p.walls in
      omega (arith, h)

  vertices-size : length (vertices_in c) ≡ 2 * total
  vertices-size = length-take-le (2 * total) c.vertices (omega (arith, total-few, z.vertices))

  lines-size : length (lines_in c) ≡ 4 * c.neighbours
  lines-size = length-take-le (4 * c.neighbours) c.lines (omega (arith, p.neighbours, z.lines))

  abbrev rest : List Float
  rest = drop (2 * total) c.vertices

  whole-vertices : vertices_in c ++ rest ≡ c.vertices
  whole-vertices = take-append-drop (2 * total) c.vertices

  walls-pass : lent_fault 0 c.obstacles (kinds_in c) (counts_in c) (vertices_in c) ≡ fine
  walls-pass =
      lent-there 0 c.obstacles (kinds_in c) (counts_in c) (vertices_in c) kinds-long counts-long (omega (arith, vertices-size))
      ∙ sym (fault-cut 0 c.obstacles (kinds_in c) (counts_in c) (vertices_in c) rest kinds-long counts-long
      (omega (arith, vertices-size)))
      ∙ ap (obstacles_fault 0 (heads_in c)) whole-vertices
      ∙ p.walls

  lines_same : lines_of (lines_in c) ≡ neighbours_in c
  lines_same = lines-take c.lines c.neighbours

  lines-pass : lent_lines_fault c.neighbours (lines_in c) ≡ fine
  lines-pass =
      lines-there c.neighbours (lines_in c) (omega (arith, lines-size))
      ∙ ap lines_fault (ap (take c.neighbours) lines_same
      ∙ take-take c.neighbours c.neighbours (lines_of c.lines) (omega arith))
      ∙ p.lines

  left-none : left_fault c.obstacles total (kinds_in c) (counts_in c) (vertices_in c) ≡ fine
  unfolding left_fault
  left-none = rw (
    le-leb (length (kinds_in c)) c.obstacles (omega (arith, kinds-long)),
    le-leb (length (counts_in c)) c.obstacles (omega (arith, counts-long)),
    le-leb (length (vertices_in c)) (2 * total) (omega (arith, vertices-size)),
  )

  cart-pass : cart_fault (cart_in c) ≡ fine
  unfolding cart_fault scenes.cart_fault
  cart-pass = p.cart

  parts-pass : parts_fault (cart_in c) c.obstacles (kinds_in c) (counts_in c) (vertices_in c) c.neighbours (lines_in c) ≡ fine
  unfolding parts_fault rest_fault layout_fault neighbours_fault
  parts-pass = rw (
    cart-pass,
    le-leb c.obstacles most_obstacles p.obstacles,
    walls-pass,
    le-leb c.neighbours most_neighbours p.neighbours,
    lines-pass,
    left-none,
    le-leb (length (lines_in c)) (4 * c.neighbours) (omega (arith, lines-size)),
  )

  bytes_same : lent_bytes (cart_in c) (kinds_in c) (counts_in c) (vertices_in c) (lines_in c) ≡ scene_bytes c
  unfolding lent_bytes
  bytes_same =
      let walls : lent_obstacles (kinds_in c) (counts_in c) (vertices_in c) ≡ obstacles_in c =
      sym (vertices-cut c.obstacles (kinds_in c) (counts_in c) (vertices_in c) rest kinds-long counts-long
      (omega (arith, vertices-size))) ∙ ap (with_vertices (heads_in c)) whole-vertices in
      rw (walls, lines_same)

-- ---- the law

lay : (f : Fault) (bytes s buffer : List ℕ) → f ≡ fine → bytes ≡ s → length s ≤ length buffer → laid_scene f bytes buffer
    ≡ written fine (length s) (s ++ drop (length s) buffer)
unfolding laid_scene
lay f bytes s buffer e b h = rw (e, b, le-leb (length s) (length buffer) h)

-- a record that is read to a scene stands at the buffer's start where that scene's parts are written
pub read-is-written : (s : List ℕ) → AllBytes s → (c : Scene) (m : ℕ) → scene_in_version1 s ≡ got c m → (buffer : List ℕ)
    → length s ≤ length buffer
    → written_scene (cart_in c) c.obstacles (kinds_in c) (counts_in c) (vertices_in c) c.neighbours (lines_in c) buffer
    ≡ written fine (length s) (s ++ drop (length s) buffer)
unfolding written_scene
read-is-written s h c m z buffer room =
    let sized = read-sized s c m z in
    let admitted = read-admitted-version-1 s c m z in
    lay _ _ s buffer (parts-pass c sized admitted) (bytes_same c sized admitted
    ∙ sym (accepted-is-bytes-version-1 s h c m z)) room
