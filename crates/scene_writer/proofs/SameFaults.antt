-- Where as many numbers are lent as the counts say, the faults of lent parts are those of a scene. Assumes nothing.
use Prim.Native.Nat.{ℕ, zero, suc, ◌+◌, ◌*◌, ◌≤◌}
use native.Mathlib.Omega.{arith}
use mathlib.Core.Path.{◌≡◌, refl}
use mathlib.Core.Bool.{not}
use mathlib.Core.List.{List, [], ◌∷◌, ◌++◌}
use lib.ListN.{length, take, drop, length-drop}
use lib.Seq.{take-append-le, drop-append-le}
use lib.Ieee.{Float}
use Rattle.admission.specs.declared.Head.{Head}
use Rattle.admission.specs.Faults.{Fault, fine, fault, must, ◌⊳◌}
use Rattle.admission.specs.Heads.{head_of, is_kind, room_for, is_empty_open}
use Rattle.admission.proofs.FaultLaws.{⊳-fine}
use Rattle.common.specs.Vectors.{vec}
use Rattle.lines.specs.Lines.{lines_of}
use Rattle.lines.specs.LineFaults.{line_fault, lines_fault}
use Rattle.edges.specs.Edges.{OuterVertex}
use Rattle.obstacles.specs.Doubled.{none_before, on_vertex}
use Rattle.obstacles.specs.ObstacleFaults.{number_fault, components_fault, vertex_fault, vertices_fault, head_fault, outline_fault}
use Rattle.obstacles.proofs.ObstacleFaults.{head-room}
use Rattle.dodgy_2d.specs.Scenes.{heads_of, obstacles_fault}
use Rattle.layouts.specs.Layouts.{kind_fault, count_fault, own_fault, lent_fault, vertex_total}
use Rattle.scene_records.specs.SceneBytes.{with_vertices}
use Rattle.scene_writer.specs.Writing.{lent_line_fault, lent_lines_fault}

pub lines-there : (n : ℕ) (xs : List Float) → 4 * n ≤ length xs → lent_lines_fault n xs ≡ lines_fault (take n (lines_of xs))
unfolding lent_lines_fault lent_line_fault number_fault lines_of lines_fault line_fault
lines-there zero xs h = refl
lines-there (suc n) [] h = absurd (omega arith)
lines-there (suc n) (w ∷ []) h = absurd (omega arith)
lines-there (suc n) (w ∷ x ∷ []) h = absurd (omega arith)
lines-there (suc n) (w ∷ x ∷ y ∷ []) h = absurd (omega arith)
lines-there (suc n) (w ∷ x ∷ y ∷ z ∷ xs) h = rw (lines-there n xs (omega arith))

-- ---- obstacles

pub lent-there : (total n : ℕ) (ks cs : List ℕ) (xs : List Float) → length ks ≡ n → length cs ≡ n →
    2 * vertex_total n cs ≤ length xs → lent_fault total n ks cs xs ≡ obstacles_fault total (heads_of ks cs) xs
unfolding lent_fault own_fault kind_fault count_fault vertex_total heads_of obstacles_fault head_fault
lent-there total zero [] cs xs p q h = refl
lent-there total zero (k ∷ ks) cs xs p q h = absurd (omega arith)
lent-there total (suc n) [] cs xs p q h = absurd (omega arith)
lent-there total (suc n) (k ∷ ks) [] xs p q h = absurd (omega arith)
lent-there total (suc n) (k ∷ ks) (c ∷ cs) xs p q h =
    let rest = lent-there (total + c) n ks cs (drop (2 * c) xs) (omega arith) (omega arith) (rw length-drop (omega arith)) in
    rw rest (regrouped (must (is_kind k) 3) (must (room_for total c) 4) (must (not (is_empty_open k c)) 5)
    (outline_fault (head_of k c) xs) (obstacles_fault (total + c) (heads_of ks cs) (drop (2 * c) xs)))
  where
    regrouped : (a b d v r : Fault) → ((a ⊳ ((b ⊳ d) ⊳ v)) ⊳ r) ≡ ((a ⊳ (b ⊳ d)) ⊳ (v ⊳ r))
    regrouped fine fine fine fine r = refl
    regrouped fine fine fine (fault m) r = refl
    regrouped fine fine (fault m) v r = refl
    regrouped fine (fault m) d v r = refl
    regrouped (fault m) b d v r = refl

-- numbers behind the vertices do not matter
pub vertices-cut : (n : ℕ) (ks cs : List ℕ) (xs rest : List Float) → length ks ≡ n → length cs ≡ n →
    2 * vertex_total n cs ≤ length xs → with_vertices (heads_of ks cs) (xs ++ rest) ≡ with_vertices (heads_of ks cs) xs
unfolding vertex_total heads_of with_vertices
vertices-cut zero [] cs xs rest p q h = refl
vertices-cut zero (k ∷ ks) cs xs rest p q h = absurd (omega arith)
vertices-cut (suc n) [] cs xs rest p q h = absurd (omega arith)
vertices-cut (suc n) (k ∷ ks) [] xs rest p q h = absurd (omega arith)
vertices-cut (suc n) (k ∷ ks) (c ∷ cs) xs rest p q h =
    rw (
      take-append-le (2 * c) xs rest (omega arith),
      drop-append-le (2 * c) xs rest (omega arith),
      vertices-cut n ks cs (drop (2 * c) xs) rest (omega arith) (omega arith) (rw length-drop (omega arith)),
    )

own-cut : (before : OuterVertex) (n : ℕ) (xs rest : List Float) → 2 * n ≤ length xs →
    vertices_fault before n (xs ++ rest) ≡ vertices_fault before n xs
unfolding vertices_fault vertex_fault components_fault number_fault
own-cut before zero xs rest h = refl
own-cut before (suc n) [] rest h = absurd (omega arith)
own-cut before (suc n) (x ∷ []) rest h = absurd (omega arith)
own-cut before (suc n) (x ∷ y ∷ xs) rest h = rw (own-cut (on_vertex before (vec x y)) n xs rest (omega arith))

outline-cut : (h : Head) (xs rest : List Float) → 2 * h.count ≤ length xs → outline_fault h (xs ++ rest) ≡ outline_fault h xs
unfolding outline_fault
outline-cut h xs rest e = rw (own-cut none_before h.count xs rest e, take-append-le (2 * h.count) xs rest e)

pub fault-cut : (total n : ℕ) (ks cs : List ℕ) (xs rest : List Float) → length ks ≡ n → length cs ≡ n →
    2 * vertex_total n cs ≤ length xs → obstacles_fault total (heads_of ks cs) (xs ++ rest)
    ≡ obstacles_fault total (heads_of ks cs) xs
unfolding vertex_total heads_of obstacles_fault
fault-cut total zero [] cs xs rest p q h = refl
fault-cut total zero (k ∷ ks) cs xs rest p q h = absurd (omega arith)
fault-cut total (suc n) [] cs xs rest p q h = absurd (omega arith)
fault-cut total (suc n) (k ∷ ks) [] xs rest p q h = absurd (omega arith)
fault-cut total (suc n) (k ∷ ks) (c ∷ cs) xs rest p q h =
    rw (
      outline-cut (head_of k c) xs rest (omega arith),
      drop-append-le (2 * c) xs rest (omega arith),
      fault-cut (total + c) n ks cs (drop (2 * c) xs) rest (omega arith) (omega arith) (rw length-drop (omega arith)),
    )

-- "192 together"
pub few-together : (total n : ℕ) (ks cs : List ℕ) (xs : List Float) → length ks ≡ n → length cs ≡ n → total ≤ 192 →
    obstacles_fault total (heads_of ks cs) xs ≡ fine → total + vertex_total n cs ≤ 192
unfolding vertex_total heads_of obstacles_fault
few-together total zero [] cs xs p q t e = omega arith
few-together total zero (k ∷ ks) cs xs p q t e = absurd (omega arith)
few-together total (suc n) [] cs xs p q t e = absurd (omega arith)
few-together total (suc n) (k ∷ ks) [] xs p q t e = absurd (omega arith)
few-together total (suc n) (k ∷ ks) (c ∷ cs) xs p q t e =
    let a = ⊳-fine (head_fault total (head_of k c)) e in
    let b = ⊳-fine (outline_fault (head_of k c) xs) a.1 in
    let room = head-room total (head_of k c) a.0 in
    let rest = few-together (total + c) n ks cs (drop (2 * c) xs) (omega arith) (omega arith) room.1 b.1 in
    omega (arith, rest)
