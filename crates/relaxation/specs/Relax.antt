-- 01, "Relaxation". Definitions only. Assumes nothing.
use Rattle.std.specs.Prelude.{ℕ, ◌+◌, ◌&&◌, length, take, drop, Float}
use mathlib.Core.List.{List, [], ◌∷◌, ◌++◌, foldl}
use Rattle.arithmetic.specs.Binary32.{◌⊘◌, ◌<ᶠ◌, ◌≤ᶠ◌, 0ᶠ, halfᶠ, when◌then◌else◌, finite}
use Rattle.arithmetic.specs.Ends.{abs_of}
use Rattle.common.specs.declared.Vec2.{Vec2}
use Rattle.common.specs.Vectors.{add_of, sub_of, mul_of, dot_of, determinant_of, perp_of, normalize_of}
use Rattle.lines.specs.declared.Line.{Line}
use Rattle.lines.specs.Lines.{line, epsilon}
use Rattle.one_line.specs.OneLine.{along, point_on}
use Rattle.pass_2d.specs.Pass.{Pass, feasible, failed, refused, finite_point, pass}

-- ---- the tightened list

-- what a previous line becomes: a line, or nothing where it points the same way
pub data Tight : Type 0 where
  kept : Line → Tight
  skipped : Tight

-- "direction is normalize(previous − own)"
unfoldable pub tight_at : Line → Line → Vec2 → Tight
tight_at own prev p = kept (line p (normalize_of (sub_of prev.direction own.direction)))

-- "the midpoint, (own point + previous point) · 0.5"
unfoldable pub midpoint : Line → Line → Vec2
midpoint own prev = mul_of (add_of own.point prev.point) halfᶠ

-- "the intersection, own point + t · own direction, t = determinant(previous direction, own point − previous point) /
-- determinant(own direction, previous direction)"
unfoldable pub intersection : Line → Line → Vec2
intersection own prev =
    point_on own (determinant_of prev.direction (sub_of own.point prev.point) ⊘ determinant_of own.direction
    prev.direction)

-- "if |determinant| of the two directions ≤ 0.00001: skip if their dot > 0, else the midpoint; if not parallel, the intersection"
unfoldable pub tighten : Line → Line → Tight
tighten own prev =
    when abs_of (determinant_of own.direction prev.direction) ≤ᶠ epsilon
    then (when 0ᶠ <ᶠ dot_of own.direction prev.direction then skipped else tight_at own prev (midpoint own prev))
    else tight_at own prev (intersection own prev)

-- behind the tightened lines made before it
abbrev pub behind : List Line → Tight → List Line
behind made (kept l) = made ++ (l ∷ [])
behind made skipped = made

unfoldable pub tighten_next : Line → List Line → Line → List Line
tighten_next own made prev = behind made (tighten own prev)

-- "the rigid lines unchanged; from each later previous line .."
unfoldable pub tightened : ℕ → Line → List Line → List Line
tightened rigid own earlier = foldl (tighten_next own) (take rigid earlier) (drop rigid earlier)

-- the probes of building that list: one for every previous line that is examined, skipped or kept; the rigid ones are
-- copied, not examined
abbrev pub build_probes : ℕ → List Line → ℕ
build_probes rigid earlier = length (drop rigid earlier)

-- ---- relaxation

-- relaxation so far: the point, the penetration, the probes; or a refusal
pub data Relaxed : Type 0 where
  relaxed : Vec2 → Float → ℕ → Relaxed
  relax_refused : ℕ → Relaxed

-- how deep a point lies on the wrong side of a line
unfoldable pub depth_in : Line → Vec2 → Float
depth_in own p = determinant_of own.direction (sub_of own.point p)

-- "Success replaces the point and recomputes penetration; failure keeps both." Refusal 9: the new point or penetration
-- is not finite
unfoldable pub replaced : Line → Vec2 → Float → ℕ → Pass → Relaxed
replaced own p depth n (feasible q m) =
    when finite_point q && finite (depth_in own q) then relaxed q (depth_in own q) (n + m) else relax_refused 9
replaced own p depth n (failed f q m) = relaxed p depth (n + m)
replaced own p depth n (refused r) = relax_refused r

-- "determinant(direction, line point − point now) ≤ penetration passes. Otherwise build a fresh list .. Solve it along
-- perp(own direction)."
unfoldable pub relax_line : ℕ → Float → List Line → Line → Relaxed → Relaxed
relax_line rigid limit earlier own (relaxed p depth n) =
    when depth_in own p ≤ᶠ depth then relaxed p depth (n + 1)
    else replaced own p depth (n + 1 + build_probes rigid earlier) (pass (along (perp_of own.direction)) limit
    (tightened rigid own earlier))
relax_line rigid limit earlier own (relax_refused r) = relax_refused r
