-- A failed line's origin is never unknown (02, T-06): `failed-known`, pass by pass and over both. Assumes nothing.
use Prim.Native.Nat.{ℕ, zero, suc, ◌+◌, ◌-◌, ◌≤◌, ◌<◌}
use mathlib.Core.Path.{◌≡◌, refl, ap, ◌∙◌}
use mathlib.Core.List.{List, ◌++◌}
use native.Mathlib.Omega.{arith}
use native.Mathlib.Nat.{zero-add}
use lib.ListN.{length, get_or, length-append, length-take, get_or-append}
use lib.Seq.{get_or-append-add}
use lib.Ieee.{Float}
use Rattle.arithmetic.proofs.Lists.{All, none, more}
use Rattle.admission.specs.Faults.{Fault, fine, fault, unless_fault}
use Rattle.common.specs.declared.Vec2.{Vec2}
use Rattle.lines.specs.declared.Origin.{Origin}
use Rattle.lines.specs.Lines.{lines_of}
use Rattle.lines.specs.Origins.{unknown, neighbour_origin}
use Rattle.pass_2d.specs.Pass.{Failure}
use Rattle.linear_programming.specs.Whole.{Outcome, stands, refusal, solving, relaxing, rigid_failure, no_line, failed_line}
use Rattle.linear_programming.proofs.FailedLaws.{Placed, none-failed, beyond-rigid, among-rigid, none-stands, failed-placed}
use Rattle.edges.specs.declared.Agent.{Agent}
use Rattle.obstacles.specs.Obstacles.{Answer, lines, refused}
use Rattle.dodgy_2d.specs.declared.Scene.{Scene}
use Rattle.dodgy_2d.specs.Scenes.{heads_in, neighbours_in, scene_fault}
use Rattle.dodgy_2d.specs.Outcomes.{outcome, refused_scene, edges_at, solved_over, pass_at, at_rest, second_pass, first_pass, scene_outcome}
use Rattle.dodgy_2d.specs.Origins.{edge_origins, neighbours_from, failed_origin, pass_origin, last_velocity, scene_origin}
use Rattle.dodgy_2d.proofs.OriginsNoted.{neighbour-at}
use Rattle.known_origins.specs.Known.{EdgeOf, edge_of, NeighbourOf, neighbour-of, Known, solved-first, relaxed-first, solved-again, relaxed-again, failed-again, refused-known}
use Rattle.known_origins.proofs.WallLaws.{walls-aligned, walls-are-edges}

-- ---- the origin of one line of a pass

all-at : {A : Type 0} {P : A → Type 0} (i : ℕ) (d : A) {l : List A} → All P l → i < length l → P (get_or l i d)
all-at i d none h = absurd (omega arith)
all-at zero d (more g gs) h = g
all-at (suc i) d (more g gs) h = all-at i d gs (omega arith)

module _ (s : Scene) (walls : List Origin) where
  abbrev all : List Origin
  all = walls ++ neighbours_from 0 s.neighbours

  edge_at : All (EdgeOf s) walls → (k : ℕ) → k < length walls → EdgeOf s (get_or all k unknown)
  edge_at edges k h = rw (get_or-append walls (neighbours_from 0 s.neighbours) unknown k h) (all-at k unknown edges h)

  neighbour-behind : (k : ℕ) → length walls ≤ k → k < length walls + s.neighbours → NeighbourOf s (get_or all k unknown)
  neighbour-behind k above below =
      let i = k - length walls in
      let e : k ≡ length walls + i = omega arith in
      let at : get_or all k unknown ≡ neighbour_origin i =
      ap (λ (j : ℕ). get_or all j unknown) e
      ∙ get_or-append-add walls (neighbours_from 0 s.neighbours) i unknown
      ∙ neighbour-at 0 s.neighbours i (omega arith)
      ∙ ap neighbour_origin (zero-add i) in
      rw at (neighbour-of {place = i} (omega arith))

-- ---- a pass

data PassKnown (s : Scene) : Outcome → Origin → Type 0 where
  pass-solving : {p : Vec2} {n : ℕ} → PassKnown s (stands (solving p) no_line n) unknown
  pass-relaxing : {p : Vec2} {depth : Float} {f : Failure} {n : ℕ} {o : Origin} → NeighbourOf s o →
      PassKnown s (stands (relaxing p depth) (failed_line f) n) o
  pass-rigid : {k : ℕ} {p : Vec2} {f : Failure} {n : ℕ} {o : Origin} → EdgeOf s o →
      PassKnown s (stands (rigid_failure k p) (failed_line f) n) o
  pass-refused : {r : ℕ} → PassKnown s (refusal r) unknown

placed-known : (s : Scene) (walls : List Origin) → All (EdgeOf s) walls → (rigid n : ℕ) → length walls ≡ rigid →
    n ≤ rigid + s.neighbours →
    {o : Outcome} → Placed rigid n o → PassKnown s o (failed_origin (walls ++ neighbours_from 0 s.neighbours) o)
placed-known s walls edges rigid n long few none-failed = pass-solving
placed-known s walls edges rigid n long few (beyond-rigid {f = f} above below) =
    pass-relaxing (neighbour-behind s walls f.index (omega arith) (omega arith))
placed-known s walls edges rigid n long few (among-rigid {f} under below) =
    pass-rigid (edge_at s walls edges f.index (omega arith))
placed-known s walls edges rigid n long few none-stands = pass-refused

module _ (s : Scene) (velocity : Vec2) where
  abbrev agent : Agent
  agent = record { position = s.agent.position; velocity = velocity }

  abbrev walls : List Origin
  walls = edge_origins agent s.margin s.horizon s.vertices 0 0 (heads_in s)

  solved-known : (a : Answer) → edges_at s velocity ≡ a →
      PassKnown s (solved_over s.wish s.limit (neighbours_in s) a)
      (failed_origin (walls ++ neighbours_from 0 s.neighbours)
      (solved_over s.wish s.limit (neighbours_in s) a))
  solved-known (refused r) e = pass-refused
  solved-known (lines l) e =
      let few : length (l ++ neighbours_in s) ≤ length l + s.neighbours =
      omega (arith, length-append l (neighbours_in s), length-take s.neighbours (lines_of s.lines)) in
      placed-known s walls (walls-are-edges s agent) (length l) (length (l ++ neighbours_in s))
      (walls-aligned agent s.margin s.horizon s.vertices 0 0 (heads_in s) e) few
      (failed-placed (length l) s.limit (l ++ neighbours_in s) s.wish)

  pass-known : PassKnown s (pass_at s velocity) (pass_origin s velocity)
  unfolding pass_at pass_origin
  pass-known = solved-known (edges_at s velocity) refl

-- ---- the scene

second-known : (s : Scene) (n : ℕ) {p : Outcome} {o : Origin} → PassKnown s p o → Known s (second_pass n p) o
second-known s n pass-solving = solved-again
second-known s n (pass-relaxing at) = relaxed-again at
second-known s n (pass-rigid at) = failed-again at
second-known s n pass-refused = refused-known

first-known : (s : Scene) {p : Outcome} {o : Origin} → PassKnown s p o → o ≡ pass_origin s s.agent.velocity →
    Known s (first_pass s p) (pass_origin s (last_velocity s p))
first-known s pass-solving e = rw (← e) solved-first
first-known s (pass-relaxing at) e = rw (← e) (relaxed-first at)
first-known s (pass-rigid {n = n} at) e = second-known s n (pass-known s at_rest)
first-known s pass-refused e = rw (← e) refused-known

-- in outcomes 2 and 4 the failed line is a neighbour's, in 5 an edge's; in 1 and 3 none failed, and its origin is unknown
pub failed-known : (s : Scene) → Known s (scene_outcome s) (scene_origin s)
unfolding scene_outcome scene_origin
failed-known s = go (scene_fault s)
  where
    go : (f : Fault) → Known s (unless_fault refused_scene f (first_pass s (pass_at s s.agent.velocity)))
        (unless_fault (λ (r : ℕ). unknown) f (pass_origin s (last_velocity s (pass_at s s.agent.velocity))))
    go fine = first-known s (pass-known s s.agent.velocity) refl
    go (fault r) = refused-known

-- "(0, 0, 0), which no failed line of a scene has"
no-unknown : (s : Scene) (o : Origin) {code : ℕ} {p : Vec2} {f : Failure} {n : ℕ} →
    Known s (outcome code p (failed_line f) n) o → o ≡ unknown → ⊥
no-unknown s o (relaxed-first (neighbour-of h)) e = let k : ◌≡◌ {A = ℕ} 2 0 = ap (λ (x : Origin). x.kind) e in omega arith
no-unknown s o (relaxed-again (neighbour-of h)) e = let k : ◌≡◌ {A = ℕ} 2 0 = ap (λ (x : Origin). x.kind) e in omega arith
no-unknown s o (failed-again (edge_of h k)) e = let k : ◌≡◌ {A = ℕ} 1 0 = ap (λ (x : Origin). x.kind) e in omega arith

pub never-unknown : (s : Scene) {code : ℕ} {p : Vec2} {f : Failure} {n : ℕ} →
    scene_outcome s ≡ outcome code p (failed_line f) n → scene_origin s ≡ unknown → ⊥
never-unknown s e = no-unknown s (scene_origin s) (rw e at (failed-known s))
