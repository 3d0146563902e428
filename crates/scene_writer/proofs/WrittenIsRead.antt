-- Law: what the writer accepts, the reader reads back to the same numbers, bit for bit. Assumes nothing.
use Prim.Native.Nat.{ℕ, zero, suc, ◌+◌, ◌*◌, ◌≤◌}
use native.Mathlib.Omega.{arith}
use mathlib.Core.Path.{◌≡◌, refl, sym, ap, ◌∙◌}
use mathlib.Core.Bool.{not}
use mathlib.Core.List.{List, [], ◌∷◌, map}
use lib.ListN.{length, take, drop, length-drop, take-append-drop}
use lib.Seq.{length-take-le, take-length}
use lib.Ieee.{Float}
use Rattle.arithmetic.specs.Binary32.{0ᶠ}
use Rattle.arithmetic.proofs.Lists.{All, all_drop}
use Rattle.admission.specs.Faults.{fine, must, inside}
use Rattle.admission.specs.Heads.{is_kind, room_for, is_empty_open}
use Rattle.admission.proofs.FaultLaws.{⊳-fine, must-fine}
use Rattle.common.specs.Vectors.{longest}
use Rattle.lines.specs.Lines.{lines_of, four_of}
use Rattle.lines.specs.LineFaults.{lines_fault}
use Rattle.edges.specs.Edges.{shortest_horizon, longest_horizon}
use Rattle.obstacles.specs.Doubled.{none_before, closes}
use Rattle.obstacles.specs.ObstacleFaults.{vector_fault, agent_fault, vertices_fault, outline_fault}
use Rattle.obstacles.specs.Vertices.{vertices_of}
use Rattle.dodgy_2d.specs.Scenes.{heads_of}
use Rattle.fields.specs.Bytes.{each}
use Rattle.fields.specs.Got.{got}
use Rattle.fields.proofs.Backs.{Every}
use Rattle.layouts.specs.Layouts.{kind_fault, count_fault, own_fault, lent_fault, layout_fault, vertex_total}
use Rattle.scene_records.specs.declared.Cart.{Cart}
use Rattle.scene_records.specs.Parts.{size_of, kind_of, numbers_in, coordinates}
use Rattle.scene_records.specs.Records.{scene_of, scene_in_version1}
use Rattle.scene_records.specs.SceneBytes.{with_vertices}
use Rattle.scene_records.proofs.WrittenParts.{GoodCart, GoodObstacle, GoodParts, on_total, parts-read-version-1}
use Rattle.scene_records.proofs.WrittenScenes.{Fit, FitVector, fit-lines, good, good-vector, good-vertices, good-lines}
use Rattle.scene_writer.specs.Writing.{cart_fault, lent_obstacles, lent_bytes, lent_scene, written_scene}
use Rattle.scene_writer.proofs.PutLaws.{own-size}
use Rattle.scene_writer.proofs.Accepted.{Fits, Passed, passed, obstacles-many, lines-many}
use Rattle.scene_writer.proofs.Untouched.{written-accepted}
use Rattle.scene_writer.proofs.SameFaults.{lines-there}

-- what every value of the code's type has: its numbers are f32
pub record FitCart (c : Cart) : Type 0 where
  pub position : FitVector c.agent.position
  pub velocity : FitVector c.agent.velocity
  pub margin : Fit c.margin
  pub horizon : Fit c.horizon
  pub wish : FitVector c.wish
  pub limit : Fit c.limit

-- ---- without a fault, each rule passed

good-cart : (c : Cart) → FitCart c → cart_fault c ≡ fine → GoodCart c
unfolding cart_fault agent_fault
good-cart c t e =
    let k = ⊳-fine (agent_fault c.agent c.margin c.horizon) e in
    let a = ⊳-fine (vector_fault c.agent.position) k.0 in
    let b = ⊳-fine (vector_fault c.agent.velocity) a.1 in
    let d = ⊳-fine (must (inside 0ᶠ longest c.margin) 6) b.1 in
    let g = ⊳-fine (vector_fault c.wish) k.1 in
    record {
      position = good-vector c.agent.position t.position a.0;
      velocity = good-vector c.agent.velocity t.velocity b.0;
      margin = good (inside 0ᶠ longest) c.margin 6 t.margin d.0;
      horizon = good (inside shortest_horizon longest_horizon) c.horizon 6 t.horizon d.1;
      wish = good-vector c.wish t.wish g.0;
      limit = good (inside 0ᶠ longest) c.limit 6 t.limit g.1;
    }

good-lent : (total n : ℕ) (ks cs : List ℕ) (xs : List Float) → length ks ≡ n → length cs ≡ n →
    2 * vertex_total n cs ≤ length xs → All Fit xs → lent_fault total n ks cs xs ≡ fine →
    Every GoodObstacle on_total total (lent_obstacles ks cs xs)
unfolding lent_fault own_fault kind_fault count_fault outline_fault vertex_total heads_of with_vertices
good-lent total zero [] cs xs p q h t e = tt
good-lent total zero (k ∷ ks) cs xs p q h t e = absurd (omega arith)
good-lent total (suc n) [] cs xs p q h t e = absurd (omega arith)
good-lent total (suc n) (k ∷ ks) [] xs p q h t e = absurd (omega arith)
good-lent total (suc n) (k ∷ ks) (c ∷ cs) xs p q h t e =
    let a = ⊳-fine (own_fault total (k ∷ ks) (c ∷ cs) xs) e in
    let kf = ⊳-fine (kind_fault (k ∷ ks)) a.0 in
    let cf = ⊳-fine (count_fault total k (c ∷ cs)) kf.1 in
    let rf = ⊳-fine (must (room_for total c) 4) cf.0 in
    let vf = ⊳-fine (vertices_fault none_before c xs) cf.1 in
    let size : length (vertices_of (take (2 * c) xs)) ≡ c = own-size k c 0 xs (omega arith) in (
      record {
        kind = must-fine (is_kind k) 3 kf.0;
        room = rw size (must-fine (room_for total c) 4 rf.0);
        some = rw size (must-fine (not (is_empty_open k c)) 5 rf.1);
        vertices = good-vertices none_before c xs t vf.0;
        closed = must-fine (closes k (vertices_of (take (2 * c) xs))) 14 vf.1;
      },
      rw size (good-lent (total + c) n ks cs (drop (2 * c) xs) (omega arith) (omega arith)
          (rw length-drop (omega arith)) (all_drop (2 * c) t) a.1),
    )

-- ---- the parts are those lent

kinds-same : (n : ℕ) (ks cs : List ℕ) (xs : List Float) → length ks ≡ n → length cs ≡ n → map kind_of (lent_obstacles ks cs xs) ≡ ks
unfolding heads_of with_vertices
kinds-same n [] cs xs p q = refl
kinds-same n (k ∷ ks) [] xs p q = absurd (omega arith)
kinds-same zero (k ∷ ks) (c ∷ cs) xs p q = absurd (omega arith)
kinds-same (suc n) (k ∷ ks) (c ∷ cs) xs p q =
    ap (λ (l : List ℕ). k ∷ l) (kinds-same n ks cs (drop (2 * c) xs) (omega arith) (omega arith))

counts_same : (n : ℕ) (ks cs : List ℕ) (xs : List Float) → length ks ≡ n → length cs ≡ n →
    2 * vertex_total n cs ≤ length xs → map size_of (lent_obstacles ks cs xs) ≡ cs
unfolding heads_of with_vertices vertex_total
counts_same n [] [] xs p q h = refl
counts_same n [] (c ∷ cs) xs p q h = absurd (omega arith)
counts_same n (k ∷ ks) [] xs p q h = absurd (omega arith)
counts_same zero (k ∷ ks) (c ∷ cs) xs p q h = absurd (omega arith)
counts_same (suc n) (k ∷ ks) (c ∷ cs) xs p q h =
    let size : length (vertices_of (take (2 * c) xs)) ≡ c = own-size k c 0 xs (omega arith) in
    rw (size, counts_same n ks cs (drop (2 * c) xs) (omega arith) (omega arith) (rw length-drop (omega arith)))

two-same : (xs : List Float) (n : ℕ) → length xs ≡ 2 * n → each coordinates (vertices_of xs) ≡ xs
unfolding each vertices_of
two-same [] n h = refl
two-same (x ∷ []) n h = absurd (omega arith)
two-same (x ∷ y ∷ xs) zero h = absurd (omega arith)
two-same (x ∷ y ∷ xs) (suc n) h = rw (two-same xs n (omega arith))

numbers-same : (n : ℕ) (ks cs : List ℕ) (xs : List Float) → length ks ≡ n → length cs ≡ n →
    length xs ≡ 2 * vertex_total n cs → each numbers_in (lent_obstacles ks cs xs) ≡ xs
unfolding heads_of with_vertices vertex_total each
numbers-same zero [] cs [] p q h = refl
numbers-same zero [] cs (x ∷ xs) p q h = absurd (omega arith)
numbers-same zero (k ∷ ks) cs xs p q h = absurd (omega arith)
numbers-same (suc n) [] cs xs p q h = absurd (omega arith)
numbers-same (suc n) (k ∷ ks) [] xs p q h = absurd (omega arith)
numbers-same (suc n) (k ∷ ks) (c ∷ cs) xs p q h =
    let own : each coordinates (vertices_of (take (2 * c) xs)) ≡ take (2 * c) xs =
    two-same (take (2 * c) xs) c (length-take-le (2 * c) xs (omega arith)) in
    rw (own, numbers-same n ks cs (drop (2 * c) xs) (omega arith) (omega arith) (rw length-drop (omega arith)))
    (take-append-drop (2 * c) xs)

fours-same : (xs : List Float) (n : ℕ) → length xs ≡ 4 * n → each four_of (lines_of xs) ≡ xs
unfolding each lines_of
fours-same [] n h = refl
fours-same (w ∷ []) n h = absurd (omega arith)
fours-same (w ∷ x ∷ []) n h = absurd (omega arith)
fours-same (w ∷ x ∷ y ∷ []) n h = absurd (omega arith)
fours-same (w ∷ x ∷ y ∷ z ∷ xs) zero h = absurd (omega arith)
fours-same (w ∷ x ∷ y ∷ z ∷ xs) (suc n) h = rw (fours-same xs n (omega arith))

-- ---- the law

module _ (c : Cart) (n : ℕ) (ks cs : List ℕ) (xs : List Float) (m : ℕ) (ls : List Float) (fit : FitCart c)
    (fit-vertices : All Fit xs) (fit-numbers : All Fit ls) where
  good-parts : Passed c n ks cs xs m ls → GoodParts c (lent_obstacles ks cs xs) (lines_of ls)
  unfolding layout_fault
  good-parts p =
      let h = p.fits in
      let many : length (lines_of ls) ≡ m = lines-many c n ks cs xs m ls h in
      let all : take m (lines_of ls) ≡ lines_of ls = rw (← many) (take-length (lines_of ls)) in
      let near : lines_fault (lines_of ls) ≡ fine = ap lines_fault (sym all)
      ∙ sym (lines-there m ls (omega (arith, h.lines))) ∙ p.near in
      record {
        cart = good-cart c fit p.cart;
        few = rw (obstacles-many c n ks cs xs m ls h) h.walls.few;
        obstacles = good-lent 0 n ks cs xs h.walls.kinds h.walls.counts
            (omega (arith, h.walls.vertices)) fit-vertices (⊳-fine (must (lib.Dec.leb n 16) 4) p.layout).1;
        fewer = rw many h.few;
        lines = good-lines (lines_of ls) (fit-lines ls fit-numbers) near;
      }

  scene_same : Fits n ks cs xs m ls → scene_of c n (lent_obstacles ks cs xs) m (lines_of ls) ≡ lent_scene c n ks cs xs m ls
  scene_same h =
      let w = h.walls in
      rw (
        kinds-same n ks cs xs w.kinds w.counts,
        counts_same n ks cs xs w.kinds w.counts
            (omega (arith, w.vertices)),
        numbers-same n ks cs xs w.kinds w.counts w.vertices,
        fours-same ls m h.lines,
      )

  lent-read : Passed c n ks cs xs m ls → scene_in_version1 (lent_bytes c ks cs xs ls)
      ≡ got (lent_scene c n ks cs xs m ls) (length (lent_bytes c ks cs xs ls))
  unfolding lent_bytes
  lent-read p =
      let h = p.fits in
      rw (← scene_same h) (rw (
        obstacles-many c n ks cs xs m ls h,
        lines-many c n ks cs xs m ls h,
      ) at (parts-read-version-1 c (lent_obstacles ks cs xs) (lines_of ls)
      (good-parts p)))

  -- the bytes that the writer left at the buffer's start are read to the scene whose parts were lent
  pub written-is-read : (buffer : List ℕ) → (written_scene c n ks cs xs m ls buffer).told ≡ fine
      → scene_in_version1 (take (written_scene c n ks cs xs m ls buffer).size
      (written_scene c n ks cs xs m ls buffer).contents)
      ≡ got (lent_scene c n ks cs xs m ls) (written_scene c n ks cs xs m ls buffer).size
  written-is-read buffer e =
      let a = written-accepted c n ks cs xs m ls buffer e in
      rw (a.size, a.record-there) (lent-read (passed c n ks cs xs m ls a.parts))
