-- What a scene is answered: an outcome from 1 to 5, unless it is at fault, or an edge line is refused with 9 that is
-- made for the cart's velocity or for the cart at rest. No solve of a scene is refused. Assumes nothing.
use Prim.Native.Nat.{ℕ, ◌≤◌}
use mathlib.Core.Path.{◌≡◌, refl}
use mathlib.Core.List.{◌++◌}
use native.Mathlib.Omega.{arith}
use Rattle.admission.specs.Faults.{fine, fault}
use Rattle.admission.proofs.FaultLaws.{unless-case}
use Rattle.common.specs.declared.Vec2.{Vec2}
use Rattle.linear_programming.specs.Whole.{Phase, solving, relaxing, rigid_failure, Failed, Outcome, stands, refusal}
use Rattle.lines.proofs.JudgeLaws.{faults-append}
use Rattle.linear_programming.proofs.Bounds.NeverRefused.{Stood, stood, never-refused}
use Rattle.obstacles.specs.Obstacles.{Answer, lines, refused}
use Rattle.obstacles.proofs.EdgesInOrder.{FewAdmitted, refuses, few-admitted}
use Rattle.dodgy_2d.specs.declared.Scene.{Scene}
use Rattle.dodgy_2d.specs.Scenes.{neighbours_in, scene_fault}
use Rattle.dodgy_2d.specs.Outcomes.{SceneOutcome, outcome, refused_scene, edges_at, solved_over, pass_at, at_rest, second_pass, first_pass, scene_outcome}
use Rattle.dodgy_2d.proofs.ScenePasses.{parts, scene-few-admitted}

-- ---- a pass stands, or an edge line of it is refused
data PassTold (s : Scene) (v : Vec2) : Outcome → Type 0 where
  passed : {ph : Phase} {f : Failed} {n : ℕ} → PassTold s v (stands ph f n)
  edge-refused : {r : ℕ} → r ≡ 9 → edges_at s v ≡ refused r → PassTold s v (refusal r)

stood-passed : {s : Scene} {v : Vec2} {o : Outcome} → Stood o → PassTold s v o
stood-passed stood = passed

solved-told : (s : Scene) (v : Vec2) (a : Answer) → scene_fault s ≡ fine → edges_at s v ≡ a → FewAdmitted 192 a →
    PassTold s v (solved_over s.wish s.limit (neighbours_in s) a)
solved-told s v (refused r) h e (refuses nine) = edge-refused nine e
solved-told s v (lines l) h e (few-admitted few all) =
    let p = parts s h in
    stood-passed (never-refused _ s.wish s.limit (l ++ neighbours_in s) p.wish
    (rw (faults-append l (neighbours_in s), all, p.lines)))

pass-told : (s : Scene) (v : Vec2) → scene_fault s ≡ fine → PassTold s v (pass_at s v)
unfolding pass_at
pass-told s v h = solved-told s v (edges_at s v) h refl (scene-few-admitted s v h)

-- ---- the scene

pub data Told (s : Scene) : SceneOutcome → Type 0 where
  answered : {code : ℕ} {p : Vec2} {f : Failed} {n : ℕ} → (1 ≤ code) × (code ≤ 5) → Told s (outcome code p f n)
  at-fault : {r : ℕ} → scene_fault s ≡ fault r → Told s (refused_scene r)
  by-edge : {r : ℕ} → r ≡ 9 → scene_fault s ≡ fine → edges_at s s.agent.velocity ≡ refused r → Told s (refused_scene r)
  by-edge-at-rest : {r : ℕ} → r ≡ 9 → scene_fault s ≡ fine → edges_at s at_rest ≡ refused r → Told s (refused_scene r)

second-told : (s : Scene) (n : ℕ) (o : Outcome) → scene_fault s ≡ fine → PassTold s at_rest o → Told s (second_pass n o)
second-told s n (stands (solving p) f m) h passed = answered {code = 3} (omega arith, omega arith)
second-told s n (stands (relaxing p depth) f m) h passed = answered {code = 4} (omega arith, omega arith)
second-told s n (stands (rigid_failure k p) f m) h passed = answered {code = 5} (omega arith, omega arith)
second-told s n (refusal r) h (edge-refused nine e) = by-edge-at-rest nine h e

first-told : (s : Scene) (o : Outcome) → scene_fault s ≡ fine → PassTold s s.agent.velocity o → Told s (first_pass s o)
first-told s (stands (solving p) f m) h passed = answered {code = 1} (omega arith, omega arith)
first-told s (stands (relaxing p depth) f m) h passed = answered {code = 2} (omega arith, omega arith)
first-told s (stands (rigid_failure k p) f m) h passed = second-told s m (pass_at s at_rest) h (pass-told s at_rest h)
first-told s (refusal r) h (edge-refused nine e) = by-edge nine h e

pub scene-told : (s : Scene) → Told s (scene_outcome s)
unfolding scene_outcome
scene-told s = unless-case (Told s) refused_scene (scene_fault s)
    (λ e. first-told s _ e (pass-told s s.agent.velocity e)) (λ r e. at-fault e)
