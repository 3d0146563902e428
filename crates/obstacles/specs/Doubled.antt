-- 02, T-11: neighbouring vertices of an obstacle that are equal by value. Definitions only. Assumes nothing.
use Rattle.std.specs.Prelude.{ℕ, Bool, true, not, ◌||◌, List, [], ◌∷◌, eqb}
use Rattle.admission.specs.Heads.{open_kind}
use Rattle.common.specs.declared.Vec2.{Vec2}
use Rattle.common.specs.Vectors.{eq_of}
use Rattle.edges.specs.Edges.{OuterVertex, none, at}

-- "equal by value in both components": −0 is 0
unfoldable pub doubled : Vec2 → Vec2 → Bool
doubled u v = eq_of u v

-- "Two neighbouring vertices": a vertex may follow the one before it, if there is one, where they are not equal
unfoldable pub follows : OuterVertex → Vec2 → Bool
follows none v = true
follows (at u) v = not (doubled u v)

-- what stands before an obstacle's first vertex, and before the one behind v
abbrev pub none_before : OuterVertex
none_before = none

abbrev pub on_vertex : OuterVertex → Vec2 → OuterVertex
on_vertex before v = at v

-- the last of v and the vertices behind it
unfoldable pub last_of : Vec2 → List Vec2 → Vec2
last_of v [] = v
last_of v (w ∷ vs) = last_of w vs

-- "and in a closed obstacle also the last and the first; a closed obstacle of one vertex falls under this"
unfoldable pub closes : ℕ → List Vec2 → Bool
closes kind [] = true
closes kind (v ∷ vs) = eqb kind open_kind || not (doubled (last_of v vs) v)
