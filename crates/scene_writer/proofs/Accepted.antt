-- What holds of lent parts that pass: they are as long as the counts say, and so is their record. Assumes nothing.
use Prim.Native.Nat.{ℕ, zero, suc, ◌+◌, ◌*◌, ◌≤◌}
use native.Mathlib.Omega.{arith}
use native.Mathlib.Nat.{zero-add}
use mathlib.Core.Path.{◌≡◌, refl, sym, ap, ◌∙◌}
use mathlib.Core.List.{List, [], ◌∷◌, ◌++◌, append_assoc}
use lib.Dec.{leb}
use lib.ListN.{length, drop, length-drop, length-append}
use lib.Seq.{sets, sets-eq}
use lib.Ieee.{Float}
use borrow.Author.Tests.{leb-true}
use Rattle.arithmetic.specs.Binary32.{finite}
use Rattle.admission.specs.Faults.{fine, fault, must, within}
use Rattle.admission.proofs.FaultLaws.{⊳-fine, must-fine}
use Rattle.lines.specs.Lines.{lines_of}
use Rattle.lines.specs.LineFaults.{line_reach}
use Rattle.lines.proofs.Rows.{lines_long}
use Rattle.obstacles.specs.ObstacleFaults.{number_fault}
use Rattle.obstacles.proofs.ObstacleFaults.{number-lent}
use Rattle.dodgy_2d.specs.Scenes.{heads_of}
use Rattle.fields.specs.Bytes.{big_endian, each}
use Rattle.fields.proofs.ByteLaws.{length-big-endian}
use Rattle.layouts.specs.Layouts.{layout_fault, vertex_total, left_fault}
use Rattle.layouts.proofs.LentHolds.{Exact, exactly}
use Rattle.scene_records.specs.declared.Cart.{Cart}
use Rattle.scene_records.specs.SceneBytes.{number_bytes, vector_bytes, cart_bytes, obstacle_bytes, line_bytes, body_bytes, record_bytes, with_vertices}
use Rattle.scene_records.proofs.WrittenParts.{length-each, length-cart, length-line}
use Rattle.scene_records.proofs.WrittenScenes.{heads-long, with-long}
use Rattle.scene_writer.specs.Writing.{cart_fault, lent_line_fault, lent_lines_fault, neighbours_fault, rest_fault, parts_fault, obstacle_from, lent_obstacles, lent_bytes, written, laid_scene, written_scene}
use Rattle.scene_writer.proofs.LinesInOrder.{few-passed}
use Rattle.scene_writer.proofs.PutLaws.{Puts, putting, ◌then◌, own-long}

-- ---- lines that pass are there

line-lent : (xs : List Float) → lent_line_fault xs ≡ fine → 4 ≤ length xs
unfolding lent_line_fault
line-lent xs e =
    let a = ⊳-fine (number_fault (within line_reach) xs) e in
    let b = ⊳-fine (number_fault (within line_reach) (drop 1 xs)) a.1 in
    let c = ⊳-fine (number_fault finite (drop 2 xs)) b.1 in
    let d = ⊳-fine (number_fault finite (drop 3 xs)) c.1 in
    let y = number-lent finite (drop 3 xs) d.0 in
    omega (arith, length-drop 3 xs)

lines-lent : (n : ℕ) (xs : List Float) → lent_lines_fault n xs ≡ fine → 4 * n ≤ length xs
unfolding lent_lines_fault
lines-lent zero xs e = omega arith
lines-lent (suc n) xs e =
    let a = ⊳-fine (lent_line_fault xs) e in
    let first = line-lent xs a.0 in
    let rest = lines-lent n (drop 4 xs) a.1 in
    omega (arith, length-drop 4 xs)

-- ---- the parts

pub record Fits (n : ℕ) (ks cs : List ℕ) (xs : List Float) (m : ℕ) (ls : List Float) : Type 0 where
  pub walls : Exact n ks cs xs
  pub few : m ≤ 64
  pub lines : length ls ≡ 4 * m

pub record Passed (c : Cart) (n : ℕ) (ks cs : List ℕ) (xs : List Float) (m : ℕ) (ls : List Float) : Type 0 where
  pub cart : cart_fault c ≡ fine
  pub layout : layout_fault n ks cs xs ≡ fine
  pub near : lent_lines_fault m ls ≡ fine
  pub fits : Fits n ks cs xs m ls

pub passed : (c : Cart) (n : ℕ) (ks cs : List ℕ) (xs : List Float) (m : ℕ) (ls : List Float) →
    parts_fault c n ks cs xs m ls ≡ fine → Passed c n ks cs xs m ls
unfolding parts_fault rest_fault
passed c n ks cs xs m ls e =
    let a = ⊳-fine (cart_fault c) e in
    let b = ⊳-fine (layout_fault n ks cs xs) a.1 in
    let d = ⊳-fine (neighbours_fault m ls) b.1 in
    let f = ⊳-fine (left_fault n (vertex_total n cs) ks cs xs) d.1 in
    let near = few-passed ls m d.0 in
    let there = lines-lent m ls near.1 in
    let no_lines = leb-true (length ls) (4 * m) (must-fine (leb (length ls) (4 * m)) 2 f.1) in
    record {
      cart = a.0;
      layout = b.0;
      near = near.1;
      fits = record { walls = exactly n ks cs xs b.0 f.0; few = near.0; lines = omega (arith, there, no_lines) };
    }

-- ---- how long the record is

walls-long : (n : ℕ) (ks cs : List ℕ) (xs : List Float) → length ks ≡ n → length cs ≡ n →
    length xs ≡ 2 * vertex_total n cs → length (each obstacle_bytes (lent_obstacles ks cs xs)) ≡ 2 * n + 4 * length xs
unfolding each with_vertices heads_of vertex_total
walls-long zero [] [] xs p q h = omega arith
walls-long zero [] (c ∷ cs) xs p q h = absurd (omega arith)
walls-long zero (k ∷ ks) cs xs p q h = absurd (omega arith)
walls-long (suc n) [] cs xs p q h = absurd (omega arith)
walls-long (suc n) (k ∷ ks) [] xs p q h = absurd (omega arith)
walls-long (suc n) (k ∷ ks) (c ∷ cs) xs p q h =
    let rest : length (each obstacle_bytes (lent_obstacles ks cs (drop (2 * c) xs)))
    ≡ 2 * n + 4 * length (drop (2 * c) xs) =
    walls-long n ks cs (drop (2 * c) xs) (omega arith) (omega arith) (rw length-drop (omega arith)) in
    let own : length (obstacle_bytes (obstacle_from k c xs)) ≡ 2 + 8 * c = own-long k c 0 xs (omega arith) in
    length-append (obstacle_bytes (obstacle_from k c xs)) (each obstacle_bytes (lent_obstacles ks cs (drop (2 * c) xs)))
    ∙ omega (arith, own, rest, length-drop (2 * c) xs)

-- numbers by fours have the bytes of the lines
four-by-four : (xs : List Float) (n : ℕ) → length xs ≡ 4 * n → each line_bytes (lines_of xs) ≡ each number_bytes xs
unfolding each line_bytes vector_bytes lines_of
four-by-four [] n h = refl
four-by-four (w ∷ []) n h = absurd (omega arith)
four-by-four (w ∷ x ∷ []) n h = absurd (omega arith)
four-by-four (w ∷ x ∷ y ∷ []) n h = absurd (omega arith)
four-by-four (w ∷ x ∷ y ∷ z ∷ r) zero h = absurd (omega arith)
four-by-four (w ∷ x ∷ y ∷ z ∷ r) (suc n) h = rw (four-by-four r n (omega arith)) (simp append_assoc)

module _ (c : Cart) (n : ℕ) (ks cs : List ℕ) (xs : List Float) (m : ℕ) (ls : List Float) (h : Fits n ks cs xs m ls) where
  pub obstacles-many : length (lent_obstacles ks cs xs) ≡ n
  obstacles-many = with-long (heads_of ks cs) xs ∙ heads-long ks cs n h.walls.kinds h.walls.counts

  pub lines-many : length (lines_of ls) ≡ m
  lines-many = lines_long ls ∙ rw h.lines (omega arith)

  walls-size : length (each obstacle_bytes (lent_obstacles ks cs xs)) ≡ 2 * n + 4 * length xs
  walls-size = walls-long n ks cs xs h.walls.kinds h.walls.counts h.walls.vertices

  lines-size : length (each line_bytes (lines_of ls)) ≡ 4 * length ls
  lines-size = length-each line_bytes 16 length-line (lines_of ls) ∙ omega (arith, lines-many, h.lines)

  body-size : length (body_bytes c (lent_obstacles ks cs xs) (lines_of ls)) ≡ 39 + 2 * n + 4 * length xs + 4 * length ls
  unfolding body_bytes
  body-size = simp (length-append, length-big-endian, length-cart, walls-size, lines-size) (omega arith)

  pub record-size : length (lent_bytes c ks cs xs ls) ≡ 41 + 2 * n + 4 * length xs + 4 * length ls
  unfolding lent_bytes record_bytes
  record-size = simp (length-append, length-big-endian, body-size) (omega arith)

  -- ---- its bytes, one part behind the other

  pub scene-put : (at size : ℕ) (l l1 l2 l3 l4 l5 l6 whole : List ℕ) → at ≡ 40 + 2 * n + 4 * length xs →
      size ≡ 39 + 2 * n + 4 * length xs + 4 * length ls
      → l1 ≡ sets l 0 (big_endian 2 size) → l2 ≡ sets l1 2 (big_endian 1 1) → l3 ≡ sets l2 3 (cart_bytes c) →
      l4 ≡ sets l3 39 (big_endian 1 n)
      → l5 ≡ sets l4 40 (each obstacle_bytes (lent_obstacles ks cs xs)) → l6 ≡ sets l5 at (big_endian 1 m) →
      whole ≡ sets l6 (at + 1) (each number_bytes ls)
      → whole ≡ sets l 0 (record_bytes c (lent_obstacles ks cs xs) (lines_of ls))
  unfolding record_bytes body_bytes
  scene-put at size l l1 l2 l3 l4 l5 l6 whole place long e1 e2 e3 e4 e5 e6 e7 =
      let os = lent_obstacles ks cs xs in
      let body : size ≡ length (body_bytes c os (lines_of ls)) = long ∙ sym body-size in
      let p1 : Puts l 0 (big_endian 2 (length (body_bytes c os (lines_of ls)))) 2 l1 =
      putting 2 2 (length-big-endian 2 _) refl (e1 ∙ ap (λ (k : ℕ). sets l 0 (big_endian 2 k)) body) in
      let p2 : Puts l1 2 (big_endian 1 1) 3 l2 = putting 1 3 (length-big-endian 1 1) refl e2 in
      let p3 : Puts l2 3 (cart_bytes c) 39 l3 = putting 36 39 (length-cart c) refl e3 in
      let p4 : Puts l3 39 (big_endian 1 (length os)) 40 l4 = putting 1 40 (length-big-endian 1 _) refl (e4
      ∙ ap (λ (k : ℕ). sets l3 39 (big_endian 1 k)) (sym obstacles-many)) in
      let p5 : Puts l4 40 (each obstacle_bytes os) at l5 = putting (2 * n + 4 * length xs) at walls-size (omega arith) e5 in
      let p6 : Puts l5 at (big_endian 1 (length (lines_of ls))) (at + 1) l6 =
      putting 1 (at + 1) (length-big-endian 1 _) refl (e6
      ∙ ap (λ (k : ℕ). sets l5 at (big_endian 1 k)) (sym lines-many)) in
      let p7 : Puts l6 (at + 1) (each line_bytes (lines_of ls)) (at + 1 + 4 * length ls) whole =
      putting (4 * length ls) _ lines-size refl (e7 ∙ ap (sets l6 (at + 1)) (sym (four-by-four ls m h.lines))) in
      (p1 then (p2 then p3 then p4 then p5 then p6 then p7)).puts

-- ---- what the writer leaves

put-in-front : (bytes buffer : List ℕ) → length bytes ≤ length buffer → sets buffer 0 bytes ≡ bytes ++ drop (length bytes) buffer
put-in-front bytes buffer h = sets-eq bytes buffer 0 (rw zero-add h) ∙ rw zero-add

module _ (c : Cart) (n : ℕ) (ks cs : List ℕ) (xs : List Float) (m : ℕ) (ls : List Float) (buffer : List ℕ) where
  pub told-refused : (r : ℕ) → fault r ≡ parts_fault c n ks cs xs m ls → written (fault r) 0 buffer
      ≡ written_scene c n ks cs xs m ls buffer
  unfolding written_scene laid_scene
  told-refused r e = rw (← e)

  put-lent : length (lent_bytes c ks cs xs ls) ≤ length buffer →
      sets buffer 0 (record_bytes c (lent_obstacles ks cs xs) (lines_of ls))
      ≡ lent_bytes c ks cs xs ls ++ drop (length (lent_bytes c ks cs xs ls)) buffer
  unfolding lent_bytes
  put-lent = put-in-front (record_bytes c (lent_obstacles ks cs xs) (lines_of ls)) buffer

  -- parts that pass, and the size that code works out for their record
  module _ (e : fine ≡ parts_fault c n ks cs xs m ls) (size : ℕ) (sized : size ≡ 41 + 2 * n + 4 * length xs + 4 * length ls) where
    its-size : length (lent_bytes c ks cs xs ls) ≡ size
    its-size = record-size c n ks cs xs m ls (passed c n ks cs xs m ls (sym e)).fits ∙ sym sized

    asked : must (leb size (length buffer)) 10 ≡ must (leb (length (lent_bytes c ks cs xs ls)) (length buffer)) 10
    asked = ap (λ (k : ℕ). must (leb k (length buffer)) 10) (sym its-size)

    pub told-short : (r : ℕ) → fault r ≡ must (leb size (length buffer)) 10 → written (fault r) 0 buffer
        ≡ written_scene c n ks cs xs m ls buffer
    unfolding written_scene laid_scene
    told-short r h = rw (← e, ← (h ∙ asked)) refl

    pub told-written : (w : List ℕ) → fine ≡ must (leb size (length buffer)) 10 →
        w ≡ sets buffer 0 (record_bytes c (lent_obstacles ks cs xs) (lines_of ls)) → written fine size w
        ≡ written_scene c n ks cs xs m ls buffer
    unfolding written_scene laid_scene
    told-written w h put =
        let room : length (lent_bytes c ks cs xs ls) ≤ length buffer = leb-true _ _ (must-fine _ 10 (sym (h ∙ asked))) in
        rw (← e, ← (h ∙ asked))
        (ap (λ (k : ℕ). written fine k w) (sym its-size) ∙ ap (written fine (length (lent_bytes c ks cs xs ls))) (put
        ∙ put-lent room))
