-- How large an admitted wish, its limit and admitted lines are at most, and that an admitted direction has a length.
-- Assumes nothing.
use mathlib.Core.Path.{◌≡◌, sym, ◌∙◌}
use mathlib.Core.Logic.{◌⊎◌, inl, inr}
use native.Mathlib.Omega.{arith}
use mathlib.Core.Bool.{true, false≢true}
use mathlib.Core.List.{List, [], ◌∷◌}
use lib.Dec.{lit≤}
use lib.Ieee.{Float, of_bits}
use Rattle.arithmetic.specs.Binary32.{◌⊕◌, ◌⊗◌, ◌≤ᶠ◌, 0ᶠ, finite}
use Rattle.arithmetic.specs.Ends.{abs_of}
use Rattle.arithmetic.proofs.Choice.{and_left, and_right}
use Rattle.arithmetic.proofs.Lists.{All, none, more}
use Rattle.arithmetic.proofs.Magnitude.Size.{Within, Apart, Over, NonNeg, within-or-apart, within, over, plain}
use Rattle.arithmetic.proofs.Magnitude.Operations.{square-nonneg, square-over, add-over-nonneg, add-nonneg-over}
use Rattle.arithmetic.proofs.Magnitude.Comparisons.{le-within, over-not-le, between-within}
use Rattle.common.specs.declared.Vec2.{Vec2}
use Rattle.common.specs.Vectors.{reach, longest, dot_of, length_squared_of}
use Rattle.common.proofs.VectorSizes.{Inside}
use Rattle.lines.specs.declared.Line.{Line}
use Rattle.lines.specs.LineFaults.{line_reach, band_low, band_high, line_fault, lines_fault}
use Rattle.admission.specs.Faults.{fine, must, within as is_within, inside}
use Rattle.linear_programming.specs.Admit.{wish_fault}
use Rattle.admission.proofs.FaultLaws.{⊳-fine, must-fine}
use Rattle.linear_programming.proofs.Bounds.SolveSizes.{LineIn}

-- the point is within 2 ^ 28, the direction within 2 and no shorter than its band allows
pub record Admitted (l : Line) : Type 0 where
  pub line-in : LineIn 177 l
  pub band : (band_low ≤ᶠ length_squared_of l.direction) ≡ true

-- ---- the limits

reach-in : Within 165 reach × NonNeg reach
unfolding of_bits
reach-in = (within (lit≤ tt), plain)

limit-in : Within 159 longest × NonNeg longest
unfolding of_bits
limit-in = (within (lit≤ tt), plain)

line-reach-in : Within 177 line_reach × NonNeg line_reach
unfolding of_bits
line-reach-in = (within (lit≤ tt), plain)

high-in : Within 150 band_high
unfolding of_bits
high-in = within (lit≤ tt)

pub low-over : Over 148 band_low
unfolding of_bits
low-over = over (lit≤ tt)

-- ---- a wish and its limit

pub wish-admitted : (wish : Vec2) (limit : Float) → wish_fault wish limit ≡ fine → Inside 165 wish × Within 159 limit
unfolding wish_fault is_within inside
wish-admitted wish limit h =
    let a = ⊳-fine (must (abs_of wish.x ≤ᶠ reach) 6) h in
    let b = ⊳-fine (must (abs_of wish.y ≤ᶠ reach) 6) a.1 in
    let c = must-fine (inside 0ᶠ longest limit) 6 b.1 in (
      record {
        x-in = le-within wish.x reach-in.1 reach-in.0 (must-fine _ 6 a.0);
        y-in = le-within wish.y reach-in.1 reach-in.0 (must-fine _ 6 b.0);
      },
      between-within limit limit-in.1 limit-in.0 (and_left (0ᶠ ≤ᶠ limit) (limit ≤ᶠ longest) c)
          (and_right (0ᶠ ≤ᶠ limit) (limit ≤ᶠ longest) c),
    )

-- ---- a direction in its band is at most 2

module _ (x y : Float) (f : finite x ≡ true) (g : finite y ≡ true) (h : (x ⊗ x ⊕ y ⊗ y ≤ᶠ band_high) ≡ true) where
  first-in : Within 150 x
  first-in = go (within-or-apart 150 x f)
    where
      go : Within 150 x ⊎ Apart 150 x → Within 150 x
      go (inl w) = w
      go (inr a) =
          absurd (false≢true (sym (over-not-le (add-over-nonneg (square-over 151 a f (omega arith)) (square-nonneg y g))
          high-in (omega arith)) ∙ h))

  second-in : Within 150 y
  second-in = go (within-or-apart 150 y g)
    where
      go : Within 150 y ⊎ Apart 150 y → Within 150 y
      go (inl w) = w
      go (inr a) =
          absurd (false≢true (sym (over-not-le (add-nonneg-over (square-nonneg x f) (square-over 151 a g (omega arith)))
          high-in (omega arith)) ∙ h))

line-admitted : (l : Line) → line_fault l ≡ fine → Admitted l
unfolding line_fault is_within inside length_squared_of dot_of
line-admitted l h =
    let a = ⊳-fine (must (abs_of l.point.x ≤ᶠ line_reach) 6) h in
    let b = ⊳-fine (must (abs_of l.point.y ≤ᶠ line_reach) 6) a.1 in
    let c = ⊳-fine (must (finite l.direction.x) 6) b.1 in
    let d = ⊳-fine (must (finite l.direction.y) 6) c.1 in
    let p : finite l.direction.x ≡ true = must-fine _ 6 c.0 in
    let q : finite l.direction.y ≡ true = must-fine _ 6 d.0 in
    let e = must-fine (inside band_low band_high (length_squared_of l.direction)) 7 d.1 in
    let high = and_right (band_low ≤ᶠ length_squared_of l.direction) (length_squared_of l.direction ≤ᶠ band_high) e in
    record {
      line-in = record {
        point-in = record {
          x-in = le-within l.point.x line-reach-in.1 line-reach-in.0 (must-fine _ 6 a.0);
          y-in = le-within l.point.y line-reach-in.1 line-reach-in.0 (must-fine _ 6 b.0);
        };
        direction-in = record {
          x-in = first-in l.direction.x l.direction.y p q high;
          y-in = second-in l.direction.x l.direction.y p q high;
        };
      };
      band = and_left (band_low ≤ᶠ length_squared_of l.direction) (length_squared_of l.direction ≤ᶠ band_high) e;
    }

pub lines-admitted : (ls : List Line) → lines_fault ls ≡ fine → All Admitted ls
unfolding lines_fault
lines-admitted [] h = none
lines-admitted (x ∷ xs) h =
    let a = ⊳-fine (line_fault x) h in
    more (line-admitted x a.0) (lines-admitted xs a.1)
