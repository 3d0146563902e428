-- The closing pair, by the index of an obstacle's last vertex; and what is doubled, computed. Assumes nothing.
use Prim.Native.Nat.{ℕ, ◌-◌, ◌<◌}
use mathlib.Core.Path.{◌≡◌, refl}
use mathlib.Core.Bool.{true, not, ◌||◌}
use mathlib.Core.List.{List, [], ◌∷◌}
use native.Mathlib.Omega.{arith}
use lib.Dec.{eqb}
use lib.ListN.{length, get_or}
use lib.Ieee.{nan}
use Rattle.admission.specs.Heads.{open_kind}
use Rattle.common.specs.declared.Vec2.{Vec2}
use Rattle.common.specs.Vectors.{vec}
use Rattle.obstacles.specs.Vertices.{vertex_at}
use Rattle.obstacles.specs.Doubled.{doubled, last_of, closes}

last-at : (v : Vec2) (vs : List Vec2) (d : Vec2) → last_of v vs ≡ get_or (v ∷ vs) (length vs) d
unfolding last_of
last-at v [] d = refl
last-at v (w ∷ vs) d = last-at w vs d

-- an obstacle without vertices has no closing pair
pub closes-none : (kind n : ℕ) (vs : List Vec2) → length vs ≡ n → n < 1 → true ≡ closes kind vs
unfolding closes
closes-none kind n [] e h = refl
closes-none kind n (v ∷ vs) e h = absurd (omega arith)

-- the last of n vertices and the first
pub closes-pair : (kind n : ℕ) (vs : List Vec2) → length vs ≡ n → 0 < n →
    closes kind vs ≡ (eqb kind open_kind || not (doubled (vertex_at vs (n - 1)) (vertex_at vs 0)))
unfolding closes
closes-pair kind n [] e h = absurd (omega arith)
closes-pair kind n (v ∷ vs) e h =
    let k : n - 1 ≡ length vs = omega arith in
    rw (k, last-at v vs (vec nan nan))
