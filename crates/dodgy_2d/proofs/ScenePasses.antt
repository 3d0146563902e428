-- The passes of a scene: what its parts are where it has no fault, and where its sizes have none; the at most 256 lines
-- of a pass, those of the obstacles admitted; and the solve of those lines. Assumes nothing.
use Prim.Native.Nat.{ℕ, ◌+◌, ◌-◌, ◌*◌, ◌/◌, ◌%◌, ◌≤◌}
use mathlib.Core.Path.{◌≡◌, refl, sym, ap, ◌∙◌}
use mathlib.Core.List.{List, [], ◌∷◌, ◌++◌, append_assoc}
use native.Mathlib.Omega.{arith}
use lib.Dec.{leb}
use lib.ListN.{length, take, drop, length-append, length-take}
use lib.Seq.{paste, length-take-le, take_at}
use lib.Ieee.{Float}
use borrow.Author.Tests.{leb-true, le-leb}
use borrow.Rule.Slice.PartMut.{put_mid}
use Rattle.std.proofs.lemmas.List.{take-take}
use Rattle.std.proofs.lemmas.Slice.{put_mid-paste}
use Rattle.admission.specs.declared.refusal.Refusal.{Refusal}
use Rattle.admission.specs.Refusals.{number_of}
use Rattle.admission.specs.declared.Head.{Head}
use Rattle.admission.specs.Faults.{fine, must, within}
use Rattle.admission.proofs.FaultLaws.{⊳-fine, must-fine}
use Rattle.common.specs.declared.Vec2.{Vec2}
use Rattle.common.specs.Vectors.{reach}
use Rattle.lines.specs.declared.Line.{Line}
use Rattle.lines.specs.Lines.{lines_of}
use Rattle.lines.specs.LineFaults.{lines_fault}
use Rattle.linear_programming.specs.Admit.{wish_fault, count_fault, admitted_call}
use Rattle.linear_programming.specs.Whole.{Phase, Failed, stands, whole_list}
use Rattle.lines.proofs.JudgeLaws.{faults-append}
use Rattle.lines.proofs.Rows.{lines_long, lines-take}
use Rattle.linear_programming.proofs.WholeProbes.{whole-fits}
use Rattle.edges.specs.declared.Agent.{Agent}
use Rattle.obstacles.specs.ObstacleFaults.{vector_fault, agent_fault}
use Rattle.obstacles.specs.Obstacles.{Answer, lines, refused}
use Rattle.obstacles.proofs.EdgesInOrder.{FewAdmitted, refuses, few-admitted, lines-few-admitted}
use Rattle.std.specs.Prelude.{Result, Ok, Err}
use Rattle.dodgy_2d.specs.declared.Scene.{Scene}
use Rattle.dodgy_2d.specs.declared.edge_lines.Wall.{Wall}
use Rattle.dodgy_2d.specs.Scenes.{heads_in, neighbours_in, cart_fault, obstacles_fault, scene_fault}
use Rattle.dodgy_2d.specs.Outcomes.{joined, edge_lines, edges_at, solved_over, pass_at, scene_outcome}
use Rattle.dodgy_2d.specs.Origins.{edge_origins_at, scene_origin}
use Rattle.dodgy_2d.specs.Read.{edges_of, count_in, WallsAre, Chosen, scene_answer_as}
use Rattle.dodgy_2d.specs.Admitted.{vertex_count, sizes_fault, admitted_outcome, admitted_origin, admitted_answer}
use Rattle.dodgy_2d.proofs.HeadsInOrder.{all_room}
use Rattle.dodgy_2d.proofs.EdgesJoined.{copied-lines}

-- ---- the parts of a scene without a fault

pub record Parts (s : Scene) : Type 0 where
  pub cart : cart_fault s ≡ fine
  pub wish : wish_fault s.wish s.limit ≡ fine
  pub obstacles : s.obstacles ≤ 16
  pub walls : obstacles_fault 0 (heads_in s) s.vertices ≡ fine
  pub neighbours : s.neighbours ≤ 64
  pub lines : lines_fault (neighbours_in s) ≡ fine

wish-fine : (s : Scene) → cart_fault s ≡ fine → wish_fault s.wish s.limit ≡ fine
unfolding cart_fault vector_fault wish_fault
wish-fine s e =
    let a = ⊳-fine (agent_fault s.agent s.margin s.horizon) e in
    let w = ⊳-fine (vector_fault s.wish) a.1 in
    let x = ⊳-fine (must (within reach s.wish.x) 6) w.0 in
    rw (x.0, x.1, w.1)

pub parts : (s : Scene) → scene_fault s ≡ fine → Parts s
unfolding scene_fault
parts s e =
    let a = ⊳-fine (cart_fault s) e in
    let b = ⊳-fine (must (leb s.obstacles 16) 4) a.1 in
    let c = ⊳-fine (obstacles_fault 0 (heads_in s) s.vertices) b.1 in
    let d = ⊳-fine (must (leb s.neighbours 64) 4) c.1 in
    record {
      cart = a.0;
      wish = wish-fine s a.0;
      obstacles = leb-true _ _ (must-fine (leb s.obstacles 16) 4 b.0);
      walls = c.0;
      neighbours = leb-true _ _ (must-fine (leb s.neighbours 64) 4 d.0);
      lines = d.1;
    }

-- ---- the sizes of a scene, judged alone

pub record Sizes (s : Scene) : Type 0 where
  pub obstacles : s.obstacles ≤ 16
  pub vertices : vertex_count (heads_in s) ≤ 192
  pub held : vertex_count (heads_in s) ≤ length s.vertices / 2
  pub neighbours : s.neighbours ≤ 64
  pub lent : s.neighbours ≤ length s.lines / 4

pub sizes : (s : Scene) → sizes_fault s ≡ fine → Sizes s
unfolding sizes_fault
sizes s e =
    let many = vertex_count (heads_in s) in
    let a = ⊳-fine (must (leb s.obstacles 16) 4) e in
    let b = ⊳-fine (must (leb many 192) 4) a.1 in
    let c = ⊳-fine (must (leb many (length s.vertices / 2)) 2) b.1 in
    let d = ⊳-fine (must (leb s.neighbours 64) 4) c.1 in
    record {
      obstacles = leb-true _ _ (must-fine (leb s.obstacles 16) 4 a.0);
      vertices = leb-true _ _ (must-fine (leb many 192) 4 b.0);
      held = leb-true _ _ (must-fine (leb many (length s.vertices / 2)) 2 c.0);
      neighbours = leb-true _ _ (must-fine (leb s.neighbours 64) 4 d.0);
      lent = leb-true _ _ (must-fine (leb s.neighbours (length s.lines / 4)) 2 d.1);
    }

few-vertices : (s : Scene) → scene_fault s ≡ fine →
    (vertex_count (heads_in s) ≤ 192) × (2 * vertex_count (heads_in s) ≤ length s.vertices)
few-vertices s e =
    let all = all_room 0 (heads_in s) s.vertices (omega arith) (parts s e).walls in
    (omega (arith, all.0), all.1)

-- those of an admitted scene pass
pub admitted-sizes : (s : Scene) → length s.lines ≡ 256 → scene_fault s ≡ fine → sizes_fault s ≡ fine
unfolding sizes_fault
admitted-sizes s long e =
    let p = parts s e in
    let few = few-vertices s e in
    rw (
      le-leb s.obstacles 16 p.obstacles,
      le-leb (vertex_count (heads_in s)) 192 few.0,
      le-leb (vertex_count (heads_in s)) (length s.vertices / 2) (omega (arith, few.1)),
      le-leb s.neighbours 64 p.neighbours,
      le-leb s.neighbours (length s.lines / 4) (omega (arith, long, p.neighbours)),
    )

-- so it is answered alike where nothing else is judged
pub admitted-alike : (s : Scene) → length s.lines ≡ 256 → scene_fault s ≡ fine →
    admitted_answer s ≡ scene_answer_as (scene_outcome s) (scene_origin s)
unfolding admitted_outcome admitted_origin scene_outcome scene_origin
admitted-alike s long e = rw (e, admitted-sizes s long e)

-- ---- the obstacles' lines: at most as many as the vertices, and admitted

joined-few-admitted : (m n : ℕ) (a b : Answer) → FewAdmitted m a → FewAdmitted n b → FewAdmitted (m + n) (joined a b)
joined-few-admitted m n (refused r) b (refuses e) g = refuses e
joined-few-admitted m n (lines l) (refused r) (few-admitted few all) (refuses e) = refuses e
joined-few-admitted m n (lines l) (lines k) (few-admitted few all) (few-admitted fewer rest) =
    few-admitted {ls = l ++ k} (rw length-append (omega arith)) (rw (faults-append l k, all, rest))

edges-few-admitted : (agent : Agent) (margin horizon : Float) (v : List Float) (offset : ℕ) (hs : List Head) →
    offset + vertex_count hs ≤ 192 → FewAdmitted (192 - offset) (edge_lines agent margin horizon v offset hs)
unfolding edge_lines vertex_count lines_fault
edges-few-admitted agent margin horizon v offset [] few = few-admitted {ls = []} (omega arith) refl
edges-few-admitted agent margin horizon v offset (h ∷ hs) few =
    let k : 192 - offset ≡ h.count + (192 - (offset + h.count)) = omega arith in
    rw k (joined-few-admitted h.count (192 - (offset + h.count)) _ _ (lines-few-admitted agent h.kind h.count
    _ margin horizon) (edges-few-admitted agent margin horizon v (offset + h.count) hs (omega arith)))

-- 01, "192 together": the obstacles of a scene make at most 192 lines
few-edges : (s : Scene) (velocity : Vec2) → vertex_count (heads_in s) ≤ 192 → FewAdmitted 192 (edges_at s velocity)
few-edges s velocity few = edges-few-admitted _ s.margin s.horizon s.vertices 0 (heads_in s) (omega arith)

pub scene-few-admitted : (s : Scene) (velocity : Vec2) → scene_fault s ≡ fine → FewAdmitted 192 (edges_at s velocity)
scene-few-admitted s velocity e = few-edges s velocity (few-vertices s e).0

-- ---- a pass

few-neighbours : (s : Scene) → s.neighbours ≤ 64 → length (neighbours_in s) ≤ 64
few-neighbours s h = rw length-take (omega arith)

-- at most 192 obstacle lines and 64 neighbour lines, 256 together, and so every total of probes fits
solved-fits : (s : Scene) (a : Answer) → s.neighbours ≤ 64 → FewAdmitted 192 a → {ph : Phase} {f : Failed} {n : ℕ} →
    solved_over s.wish s.limit (neighbours_in s) a ≡ stands ph f n → n ≤ 16777216
solved-fits s (lines l) few (few-admitted short all) e =
    let k = few-neighbours s few in
    whole-fits (length l) s.wish s.limit (l ++ neighbours_in s) (rw length-append (omega arith)) e
solved-fits s (refused r) few (refuses nine) e = absurd (let z : ◌≡◌ {A = ℕ} 0 1 = cc in omega arith)

few-fits : (s : Scene) (velocity : Vec2) → vertex_count (heads_in s) ≤ 192 → s.neighbours ≤ 64 →
    {ph : Phase} {f : Failed} {n : ℕ} → stands ph f n ≡ pass_at s velocity → n ≤ 16777216
unfolding pass_at
few-fits s velocity few near e = solved-fits s (edges_at s velocity) near (few-edges s velocity few) (sym e)

pub pass_fits : (s : Scene) (velocity : Vec2) → scene_fault s ≡ fine → {ph : Phase} {f : Failed} {n : ℕ} →
    stands ph f n ≡ pass_at s velocity → n ≤ 16777216
pass_fits s velocity h = few-fits s velocity (few-vertices s h).0 (parts s h).neighbours

pub sized-fits : (s : Scene) (velocity : Vec2) → sizes_fault s ≡ fine → {ph : Phase} {f : Failed} {n : ℕ} →
    stands ph f n ≡ pass_at s velocity → n ≤ 16777216
sized-fits s velocity h = few-fits s velocity (sizes s h).vertices (sizes s h).neighbours

-- the call of at most 256 whole lines is their solve
called-whole : (rigid : ℕ) (wish : Vec2) (limit : Float) (xs : List Float) → length xs % 4 ≡ 0 →
    length (lines_of xs) ≤ 256 → admitted_call rigid wish limit xs ≡ whole_list rigid wish limit (lines_of xs)
unfolding admitted_call count_fault
called-whole rigid wish limit xs four few = rw (four, le-leb _ _ few)

-- what stands before the numbers that are pasted
paste-below : (b : List Float) (at : ℕ) (more : List Float) (n : ℕ) → at ≤ length b → take at (paste b at more n) ≡ take at b
paste-below b at more n h =
    rw (append_assoc (take at b) (take n more) (drop (at + n) b)) (take_at (take at b) _ at (length-take-le at b h))

-- numbers that are written over a part are pasted there
pub put-pasted : (b more : List Float) (at k n : ℕ) {put : List Float} → put ≡ take n more → n ≡ k → n ≤ length more →
    put_mid at k b put ≡ paste b at more n
put-pasted b more at k n {put} e f h =
    let whole : n ≡ length (take n more) = sym (length-take-le n more h) in
    put_mid-paste at k b put (take n more) n e f whole ∙ rw (take-take n n more (omega arith)) refl

-- ---- the choice of lines: obstacles that are refused, or their lines with the neighbours' copied behind

module _ (s : Scene) (velocity : Vec2) (b : List Float) (walls : List Wall) (made : Result ℕ Refusal)
    (edges : edges_of made b ≡ edges_at s velocity) (told : WallsAre walls (edge_origins_at s velocity) made) where
  pub none-chosen : {r : Refusal} → made ≡ Err r → Chosen s velocity b walls made
  none-chosen {r} same =
      let refusal-told : refused (number_of r) ≡ edges_at s velocity = rw same at edges in
      record { few = rw same (omega arith); rigid = edges; all = rw (same, ← refusal-told); noted = told }

  pub all-chosen : {rigid : ℕ} → length b ≡ 1024 → made ≡ Ok rigid → count_in made ≤ 192 → s.neighbours ≤ 64 →
      4 * s.neighbours ≤ length s.lines →
      Chosen s velocity (paste b (4 * rigid) s.lines (4 * s.neighbours)) walls (Ok rigid)
  all-chosen {rigid} long same most near lent =
      let few : rigid ≤ 192 = rw same at most in
      let own : lines (lines_of (take (4 * rigid) b)) ≡ edges_at s velocity = rw same at edges in
      record {
        few = few;
        rigid = rw (paste-below b (4 * rigid) s.lines (4 * s.neighbours) (omega arith)) own;
        all =
            rw (← own, copied-lines b s.lines rigid s.neighbours (omega arith) (omega arith))
            (ap (λ (l : List Line). lines (lines_of (take (4 * rigid) b) ++ l)) (lines-take s.lines s.neighbours));
        noted = rw same at told;
      }

abbrev lines_in : Answer → List Line
lines_in (lines l) = l
lines_in (refused r) = []

-- the lines that are chosen for a pass, solved
pub pass-solved : (s : Scene) (velocity : Vec2) (b : List Float) (rigid : ℕ) → s.neighbours ≤ 64 → rigid ≤ 192 →
    length b ≡ 1024 → lines (lines_of (take (4 * rigid) b)) ≡ edges_at s velocity
    → lines (lines_of (take (4 * (rigid + s.neighbours)) b)) ≡ joined (edges_at s velocity) (lines (neighbours_in s))
    → admitted_call rigid s.wish s.limit (take (4 * (rigid + s.neighbours)) b) ≡ pass_at s velocity
unfolding pass_at
pass-solved s velocity b rigid near edges room e chosen =
    let own = lines_of (take (4 * rigid) b) in
    let xs = take (4 * (rigid + s.neighbours)) b in
    let all : lines_of xs ≡ own ++ neighbours_in s = ap lines_in (rw (← e) at chosen) in
    let long : length xs ≡ 4 * (rigid + s.neighbours) = length-take-le (4 * (rigid + s.neighbours)) b (omega arith) in
    let few : length (lines_of xs) ≤ 256 = rw (lines_long xs, long) (omega arith) in
    let many : length own ≡ rigid = lines_long (take (4 * rigid) b)
    ∙ rw (length-take-le (4 * rigid) b (omega arith)) (omega arith) in
    called-whole rigid s.wish s.limit xs (rw long (omega arith)) few ∙ rw (all, ← e, many)
