-- The crossed edges in order: one edge more, one obstacle more, and none left. Assumes nothing.
use Prim.Native.Nat.{ℕ, suc, ◌+◌, ◌-◌, ◌*◌, ◌/◌, ◌≤◌, ◌<◌}
use native.Mathlib.Omega.{arith}
use native.Mathlib.Nat.{add-zero}
use mathlib.Core.Path.{◌≡◌, refl, sym, ap}
use mathlib.Core.Bool.{Bool, true, false}
use mathlib.Core.List.{List, [], ◌∷◌, ◌++◌}
use lib.Dec.{ltb}
use lib.ListN.{length, take, drop, get_or, length-append}
use lib.Seq.{drop-drop}
use lib.Ieee.{Float}
use borrow.Author.Tests.{lt-ltb, le-ltb, ltb-true, ltb-false}
use Rattle.arithmetic.specs.Binary32.{when◌then◌else◌}
use Rattle.common.specs.declared.Vec2.{Vec2}
use Rattle.obstacles.specs.Vertices.{vertices_of, edge_at}
use Rattle.obstacles.specs.Obstacles.{edge_count, ends_of}
use Rattle.layouts.proofs.LentInOrder.{front_of, behind as beyond}
use Rattle.wall_check.specs.Crossings.{WallCheck, crossed, clear, refused, crosses, Wall, wall, walls_from, own_walls, walls_of, is_crossed, kept_if, crossed_in, found_in, behind, one_more}

-- ---- what is known, and edges behind it

pub behind-none : (s : WallCheck) → behind s [] ≡ s
unfolding behind found_in
behind-none (crossed o i n) = ap (λ (m : ℕ). crossed o i m) (add-zero n)
behind-none clear = refl
behind-none (refused r) = refl

behind-append : (s : WallCheck) (a b : List Wall) → behind s (a ++ b) ≡ behind (behind s a) b
unfolding behind found_in
behind-append (crossed o i n) a b = ap (λ (m : ℕ). crossed o i m) (rw length-append (omega arith))
behind-append clear [] b = refl
behind-append clear (w ∷ ws) b = ap (λ (m : ℕ). crossed w.obstacle w.vertex m) (length-append (w ∷ ws) b)
behind-append (refused r) a b = refl

behind-kept : (s : WallCheck) (b : Bool) (w : Wall) (ws : List Wall) → behind s (kept_if b w ws)
    ≡ behind (one_more s b w.obstacle w.vertex) ws
unfolding behind found_in one_more
behind-kept (crossed o i n) true w ws = ap (λ (m : ℕ). crossed o i m) (omega arith)
behind-kept clear true w ws = ap (λ (m : ℕ). crossed w.obstacle w.vertex m) (omega arith)
behind-kept (refused r) true w ws = refl
behind-kept s false w ws = refl

module _ (from to : Vec2) where
  kept_append : (b : Bool) (w : Wall) (c d : List Wall) → (kept_if b w c ++ d) ≡ kept_if b w (c ++ d)
  kept_append true w c d = refl
  kept_append false w c d = refl

  crossed-append : (a b : List Wall) → crossed_in from to (a ++ b) ≡ (crossed_in from to a ++ crossed_in from to b)
  unfolding crossed_in
  crossed-append [] b = refl
  crossed-append (w ∷ ws) b =
      rw (crossed-append ws b) (sym (kept_append (is_crossed from to w) w (crossed_in from to ws) (crossed_in from to b)))

  -- ---- the edges of an obstacle, from that of the vertex i on

  module _ (o kind : ℕ) (xs : List Float) (i : ℕ) where
    abbrev most : ℕ
    most = edge_count kind (length xs / 2)

    abbrev here : Wall
    here = wall o i (edge_at kind (length xs / 2) (vertices_of xs) i)

    abbrev edges_from : ℕ → List Wall
    edges_from j = crossed_in from to (walls_from o kind xs j (most - j))

    edge-there : i < most → crosses from to (ends_of kind xs i) ≡ is_crossed from to here
    unfolding ends_of when◌then◌else◌
    edge-there h = rw (lt-ltb i most h)

    edge-absent : most ≤ i → crosses from to (ends_of kind xs i) ≡ false
    unfolding ends_of crosses when◌then◌else◌
    edge-absent h = rw (le-ltb i most h)

    pub edges-on : (s : WallCheck) {r : WallCheck} → r ≡ one_more s (crosses from to (ends_of kind xs i)) o i
        → behind s (edges_from i) ≡ behind r (edges_from (i + 1))
    unfolding walls_from crossed_in one_more
    edges-on s {r} e = go (ltb i most) refl
      where
        go : (b : Bool) → ltb i most ≡ b → behind s (edges_from i) ≡ behind r (edges_from (i + 1))
        go true t =
            let h : i < most = ltb-true i most t in
            let f : most - i ≡ suc (most - (i + 1)) = omega arith in
            rw (f, e, edge-there h) (behind-kept s (is_crossed from to here) here (edges_from (i + 1)))
        go false t =
            let h : most ≤ i = ltb-false i most t in
            let f : most - i ≡ 0 = omega arith in
            let g : most - (i + 1) ≡ 0 = omega arith in
            rw (f, g, e, edge-absent h) refl

    pub edges-done : {s : WallCheck} → most ≤ i → behind s (edges_from i) ≡ s
    unfolding walls_from crossed_in
    edges-done {s} h =
        let f : most - i ≡ 0 = omega arith in
        rw f (behind-none s)

  -- ---- the obstacles from the i-th of n on, behind `total` vertices

  module _ (ks cs : List ℕ) (xs : List Float) (n i total : ℕ) where
    abbrev pub walls_left : List Wall
    walls_left = walls_of i (n - i) (drop i ks) (drop i cs) (drop (2 * total) xs)

    abbrev pub walls_later : ℕ → List Wall
    walls_later count = walls_of (i + 1) (n - (i + 1)) (drop (i + 1) ks) (drop (i + 1) cs) (drop (2 * (total + count)) xs)

    abbrev pub walls_here : ℕ → ℕ → List Wall
    walls_here kind count = own_walls i kind (take (2 * count) (drop (2 * total) xs))

    walls-more : i < n → walls_left ≡ (walls_here (get_or ks i 0) (get_or cs i 0) ++ walls_later (get_or cs i 0))
    unfolding walls_of
    walls-more h =
        let e : n - i ≡ suc (n - (i + 1)) = omega arith in
        rw (e, front_of cs i, front_of ks i, beyond total (get_or cs i 0) xs, drop-drop 1 i ks, drop-drop 1 i cs)

    pub obstacles-on : (s : WallCheck) {r : WallCheck} → i < n →
        r ≡ behind s (crossed_in from to (walls_here (get_or ks i 0) (get_or cs i 0)))
        → behind s (crossed_in from to walls_left) ≡ behind r (crossed_in from to (walls_later (get_or cs i 0)))
    obstacles-on s {r} h e =
        rw (walls-more h, crossed-append (walls_here (get_or ks i 0) (get_or cs i 0)) (walls_later (get_or cs i 0)), e)
        (behind-append s (crossed_in from to (walls_here (get_or ks i 0) (get_or cs i 0)))
        (crossed_in from to (walls_later (get_or cs i 0))))

    pub obstacles-done : {s : WallCheck} → n ≤ i → behind s (crossed_in from to walls_left) ≡ s
    unfolding walls_of crossed_in
    obstacles-done {s} h =
        let e : n - i ≡ 0 = omega arith in
        rw e (behind-none s)
