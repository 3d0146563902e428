-- The walls of a pass, beside its wall lines: as many as lines, and each an edge of an obstacle of the scene. Assumes nothing.
use Prim.Native.Nat.{ℕ, zero, suc, ◌+◌, ◌*◌, ◌<◌}
use mathlib.Core.Path.{◌≡◌, refl, sym, ◌∙◌}
use mathlib.Core.List.{List, [], ◌∷◌, ◌++◌, map, append-nil}
use native.Mathlib.Omega.{arith}
use native.Mathlib.Nat.{zero-add}
use lib.ListN.{length, take, drop, get_or, length-append, length-map, length-take}
use lib.Seq.{get_or-take}
use lib.Ieee.{Float}
use Rattle.arithmetic.proofs.Lists.{All, none, more, all_snoc, all_map}
use Rattle.admission.specs.declared.Head.{Head}
use Rattle.admission.specs.Heads.{head_of}
use Rattle.common.specs.declared.Vec2.{Vec2}
use Rattle.lines.specs.declared.Line.{Line}
use Rattle.lines.specs.declared.Origin.{Origin}
use Rattle.lines.specs.Origins.{edge_origin}
use Rattle.edges.specs.declared.Agent.{Agent}
use Rattle.edges.specs.EdgeLines.{line_for_edge}
use Rattle.obstacles.specs.Vertices.{vertices_of, edge_at}
use Rattle.obstacles.specs.Obstacles.{Answer, lines, refused, Admitted, kept, nothing_kept, not_admitted, admitted, edge_count, lines_up_to, maker, maker_behind, makers_up_to, obstacle_edges}
use Rattle.obstacles.proofs.EdgesInOrder.{lines-of-edges, made-many}
use Rattle.dodgy_2d.specs.declared.Scene.{Scene}
use Rattle.dodgy_2d.specs.Scenes.{heads_of, heads_in}
use Rattle.dodgy_2d.specs.Outcomes.{joined, lines_at, edge_lines}
use Rattle.dodgy_2d.specs.Origins.{lefts_at, origins_at, edge_origins}
use Rattle.known_origins.specs.Known.{EdgeOf, edge_of}

-- ---- as many walls as lines

data Aligned (os : List Origin) : Answer → Type 0 where
  aligned : {l : List Line} → length os ≡ length l → Aligned os (lines l)
  none-aligned : {r : ℕ} → Aligned os (refused r)

joined-aligned : {os ps : List Origin} {a b : Answer} → Aligned os a → Aligned ps b → Aligned (os ++ ps) (joined a b)
joined-aligned {os} {ps} (aligned {l} e) (aligned {l = m} f) =
    aligned {l = l ++ m} (length-append os ps ∙ rw (e, f) (sym (length-append l m)))
joined-aligned (aligned e) none-aligned = none-aligned
joined-aligned none-aligned b = none-aligned

module _ (agent : Agent) (margin horizon : Float) (v : List Float) where
  one-aligned : (place offset : ℕ) (h : Head) →
      Aligned (origins_at agent margin horizon v place offset h) (lines_at agent margin horizon v offset h)
  one-aligned place offset h = go (lines_at agent margin horizon v offset h) refl
    where
      go : (a : Answer) → lines_at agent margin horizon v offset h ≡ a →
          Aligned (origins_at agent margin horizon v place offset h) a
      go (refused r) e = none-aligned
      go (lines l) e =
          let vs = vertices_of (take (2 * h.count) (drop (2 * offset) v)) in
          aligned {l = l} (length-map (lefts_at agent margin horizon v offset h) (edge_origin place)
          ∙ sym (made-many agent h.kind h.count vs margin horizon
          (lines-of-edges agent h.kind h.count vs margin horizon e)))

  all-aligned : (place offset : ℕ) (hs : List Head) →
      Aligned (edge_origins agent margin horizon v place offset hs) (edge_lines agent margin horizon v offset hs)
  unfolding edge_origins edge_lines
  all-aligned place offset [] = aligned refl
  all-aligned place offset (h ∷ hs) = joined-aligned (one-aligned place offset h) (all-aligned (place + 1) (offset + h.count) hs)

  pub walls-aligned : (place offset : ℕ) (hs : List Head) {l : List Line} → edge_lines agent margin horizon v offset hs ≡ lines l →
      length (edge_origins agent margin horizon v place offset hs) ≡ length l
  walls-aligned place offset hs e = told (rw e at (all-aligned place offset hs))
    where
      told : {os : List Origin} {l : List Line} → Aligned os (lines l) → length os ≡ length l
      told (aligned f) = f

-- ---- each is an edge of an obstacle of the scene

-- the edges of an obstacle that made its lines
module _ (agent : Agent) (kind n : ℕ) (vs : List Vec2) (margin horizon : Float) where
  next-below : (k : ℕ) (es : List ℕ) (a : Admitted) → All (λ (i : ℕ). i < suc k) es → All (λ (i : ℕ). i < suc k) (es ++ maker k a)
  next-below k es (kept l) h = all_snoc h (omega arith)
  next-below k es nothing_kept h = rw (append-nil es) h
  next-below k es (not_admitted r) h = rw (append-nil es) h

  behind-below : (k : ℕ) (es : List ℕ) (a : Answer) → All (λ (i : ℕ). i < suc k) es →
      All (λ (i : ℕ). i < suc k) (es ++ maker_behind agent kind n vs margin horizon a k)
  behind-below k es (lines ls) h = next-below k es (admitted (line_for_edge agent (edge_at kind n vs k) margin horizon ls)) h
  behind-below k es (refused r) h = rw (append-nil es) h

  makers-below : (k : ℕ) → All (λ (i : ℕ). i < k) (makers_up_to agent kind n vs margin horizon k)
  unfolding makers_up_to
  makers-below zero = none
  makers-below (suc k) =
      behind-below k _ (lines_up_to agent kind n vs margin horizon k) (all_map (λ i h. omega arith) (makers-below k))

  edges-below : All (λ (i : ℕ). i < edge_count kind n) (obstacle_edges agent kind n vs margin horizon)
  unfolding obstacle_edges
  edges-below = makers-below (edge_count kind n)

abbrev no_head : Head
no_head = head_of 0 0

-- an edge of one of the obstacles with these heads, whose places are counted from `base`
data InHeads (base : ℕ) (hs : List Head) : Origin → Type 0 where
  in-heads : {place left : ℕ} (j : ℕ) → place ≡ base + j → j < length hs →
      left < edge_count (get_or hs j no_head).kind (get_or hs j no_head).count → InHeads base hs (edge_origin place left)

own-edges : (base : ℕ) (h : Head) (hs : List Head) {es : List ℕ} →
    All (λ (i : ℕ). i < edge_count h.kind h.count) es → All (InHeads base (h ∷ hs)) (map (edge_origin base) es)
own-edges base h hs none = none
own-edges base h hs (more below rest) =
    more (in-heads {place = base} 0 (omega arith) (omega arith) below) (own-edges base h hs rest)

later_edge : (base : ℕ) (h : Head) (hs : List Head) (o : Origin) → InHeads (base + 1) hs o → InHeads base (h ∷ hs) o
later_edge base h hs o (in-heads {place} j e below edge) = in-heads {place = place} (suc j) (omega arith) (omega arith) edge

all_append : {A : Type 0} {P : A → Type 0} {l m : List A} → All P l → All P m → All P (l ++ m)
all_append none h = h
all_append (more g gs) h = more g (all_append gs h)

walls-in-heads : (agent : Agent) (margin horizon : Float) (v : List Float) (place offset : ℕ) (hs : List Head) →
    All (InHeads place hs) (edge_origins agent margin horizon v place offset hs)
unfolding edge_origins
walls-in-heads agent margin horizon v place offset [] = none
walls-in-heads agent margin horizon v place offset (h ∷ hs) =
    all_append
    (own-edges place h hs (edges-below agent h.kind h.count _ margin horizon))
    (all_map (later_edge place h hs) (walls-in-heads agent margin horizon v (place + 1) (offset + h.count) hs))

-- the heads are those of the scene
head_at : (ks cs : List ℕ) (j : ℕ) → j < length (heads_of ks cs) →
    (j < length ks) × (get_or (heads_of ks cs) j no_head ≡ head_of (get_or ks j 0) (get_or cs j 0))
unfolding heads_of
head_at [] cs j h = absurd (omega arith)
head_at (k ∷ ks) [] j h = absurd (omega arith)
head_at (k ∷ ks) (c ∷ cs) zero h = (omega arith, refl)
head_at (k ∷ ks) (c ∷ cs) (suc j) h = let r = head_at ks cs j (omega arith) in (omega (arith, r.0), r.1)

edge_in : (s : Scene) (o : Origin) → InHeads 0 (heads_in s) o → EdgeOf s o
edge_in s o (in-heads {place} {left} j e below edge) =
    let there = head_at (take s.obstacles s.kinds) (take s.obstacles s.counts) j below in
    let few : j < s.obstacles = omega (arith, there.0, length-take s.obstacles s.kinds) in
    let at : place ≡ j = e ∙ zero-add j in
    rw at (edge_of {place = j} {left = left} few (rw (
      ← get_or-take s.obstacles s.kinds j 0 few,
      ← get_or-take s.obstacles s.counts j 0 few,
    ) (rw there.1 at edge)))

pub walls-are-edges : (s : Scene) (agent : Agent) →
    All (EdgeOf s) (edge_origins agent s.margin s.horizon s.vertices 0 0 (heads_in s))
walls-are-edges s agent = all_map (edge_in s) (walls-in-heads agent s.margin s.horizon s.vertices 0 0 (heads_in s))
