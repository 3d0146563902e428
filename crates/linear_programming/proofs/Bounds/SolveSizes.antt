-- A solve over lines whose points are at most 2 ^ p smallest values, and whose directions are at most 2, for 177 ≤ p ≤
-- 199 (2 ^ 28 to 2 ^ 50): no end is out of order, and each point is at most 2 ^ (p + 22). Assumes nothing.
use mathlib.Core.Path.{◌≡◌}
use Prim.Native.Nat.{ℕ, ◌+◌, ◌-◌, ◌≤◌}
use native.Mathlib.Omega.{arith}
use mathlib.Core.Bool.{true}
use mathlib.Core.List.{List, foldl}
use lib.ListN.{length}
use lib.Dec.{lit≤, T}
use lib.Ieee.{Float, of_bits}
use Rattle.arithmetic.specs.Binary32.{◌⊘◌, ◌<ᶠ◌, ◌≤ᶠ◌, 0ᶠ, when◌then◌else◌}
use Rattle.arithmetic.specs.Ends.{abs_of}
use Rattle.arithmetic.proofs.Choice.{if-all, if-case}
use Rattle.arithmetic.proofs.Lists.{All, none, more}
use Rattle.arithmetic.proofs.Magnitude.Size.{Within, Apart, Over, wider, within-finite, over}
use Rattle.arithmetic.proofs.Magnitude.Operations.{neg-within, add-within, sub_within, mul-within, square-nonneg, div-within, min-within, max-within, clamp-within}
use Rattle.arithmetic.proofs.Magnitude.Comparisons.{not-le-apart, greater-over}
use Rattle.arithmetic.proofs.Magnitude.SquareRoots.{sqrt-within, sqrt-sign}
use Rattle.arithmetic.proofs.Magnitude.EndsInOrder.{not-lt-le, ends-le}
use Rattle.common.specs.declared.Vec2.{Vec2}
use Rattle.common.specs.Vectors.{sub_of, dot_of, length_squared_of, normalize_of, determinant_of}
use Rattle.common.proofs.VectorSizes.{Inside, roomier, inside-finite, add-inside, sub-inside, mul-inside, dot-within, determinant-within, length-squared-fits}
use Rattle.common.proofs.NormalizedSize.{inverse-within}
use Rattle.lines.specs.declared.Line.{Line}
use Rattle.lines.specs.Lines.{epsilon}
use Rattle.one_line.specs.OneLine.{Objective, toward, along, Cause, crossing, Interval, between, empty, chord, unless_fails, cut, narrow, Found, at, fails, point_on, choose, one_line}
use Rattle.pass_2d.specs.Pass.{start, Failure, Pass, feasible, failed, finite_point, judged, solved, pass_line, pass}
use Rattle.pass_2d.proofs.WalkLaws.{walk-keeps-over}

-- the point is at most 2 ^ p smallest values, the direction at most 2
pub record LineIn (p : ℕ) (l : Line) : Type 0 where
  pub point-in : Inside p l.point
  pub direction-in : Inside 150 l.direction

pub epsilon-over : Over 132 epsilon
unfolding of_bits
epsilon-over = over (lit≤ tt)

-- ---- the interval

-- the ends are within 2 ^ k and in order, or the interval is gone
pub data Good (k : ℕ) : Interval → Type 0 where
  good : {l r : Float} {n : ℕ} → Within k l → Within k r → (l ≤ᶠ r) ≡ true → Good k (between l r n)
  gone : {n : ℕ} {cause : Cause} → Good k (empty n cause)

crossed-good : {k : ℕ} {l r : Float} (cause : Cause) (n : ℕ) → Within k l → Within k r → Good k (unless_fails (r <ᶠ l) cause l r n)
unfolding unless_fails
crossed-good {k} {l} {r} cause n h g = if-case (Good k) (r <ᶠ l) (λ t. gone) (λ t. good h g (not-lt-le h g t))

-- ---- what one line finds

-- the wish is at most 65,536, or the direction at most 2
pub data Aimed : Objective → Type 0 where
  aimed : {wish : Vec2} → Inside 165 wish → Aimed (toward wish)
  pointed : {d : Vec2} → Inside 150 d → Aimed (along d)

-- a point within 2 ^ k, or a failure; no refusal
data Lands (k : ℕ) : Found → Type 0 where
  lands : {q : Vec2} {n : ℕ} → Inside k q → Lands k (at q n)
  misses : {n : ℕ} {cause : Cause} → Lands k (fails n cause)

-- and so of what a pass leaves
pub data Goes (k : ℕ) : Pass → Type 0 where
  goes : {q : Vec2} {n : ℕ} → Inside k q → Goes k (feasible q n)
  ends : {f : Failure} {q : Vec2} {n : ℕ} → Goes k (failed f q n)

-- the starting point
pub start-inside : {o : Objective} (limit : Float) → Aimed o → Within 159 limit → Inside 250 (start o limit)
unfolding start normalize_of
start-inside limit (aimed {wish} W) L =
    if-case (Inside 250) _
    (λ t.
    let o = greater-over (length_squared_of wish) (square-nonneg limit (within-finite L)) t (length-squared-fits wish) in
    let w : Within 276 (length_squared_of wish) =
    unfold length_squared_of in wider (omega arith) (dot-within 182 W W (omega arith)) in
    mul-inside 250 (mul-inside 240 W (inverse-within 74 224 o w (omega arith)) (omega arith)) L (omega arith))
    (λ t. roomier (omega arith) W)
start-inside limit (pointed D) L = mul-inside 250 D L (omega arith)

pub along-inside : {d : Vec2} (limit : Float) → Inside 150 d → Within 159 limit → Inside 160 (start (along d) limit)
unfolding start
along-inside limit D L = mul-inside 160 D L (omega arith)

judged-goes : (o : Objective) {k : ℕ} {q : Vec2} (n : ℕ) → Inside k q → Goes k (judged o q n)
unfolding judged finite_point when◌then◌else◌
judged-goes (toward w) n h = rw (inside-finite h) (goes h)
judged-goes (along d) n h = goes h

solved-goes : (o : Objective) (i : ℕ) (q : Vec2) (n : ℕ) {k l : ℕ} → k ≤ l → {f : Found} → Lands k f → Goes l (solved o i q n f)
unfolding solved
solved-goes o i q n l (lands {n = m} h) = judged-goes o (n + m) (roomier l h)
solved-goes o i q n l misses = ends

module _ (p : ℕ) (P : (177 ≤ p) × (p ≤ 199)) where
  narrow_good : (own it : Line) → LineIn p own → LineIn p it → {i : Interval} → Good (p + 20) i → Good (p + 20) (narrow own i it)
  unfolding narrow cut unless_fails
  narrow_good own it O I gone = gone
  narrow_good own it O I (good {l} {r} {n} h g t) =
      let d : Within 152 (determinant_of own.direction it.direction) =
      determinant-within 152 O.direction-in I.direction-in (omega arith) in
      let m : Within (p + 3) (determinant_of it.direction (sub_of own.point it.point)) =
      determinant-within (p + 3) I.direction-in (sub-inside (p + 1) O.point-in I.point-in (omega arith))
      (omega arith) in
      let q : Apart 132 (determinant_of own.direction it.direction) →
      Within (p + 20) (determinant_of it.direction (sub_of own.point it.point) ⊘ determinant_of
      own.direction it.direction) = λ a. div-within (p + 20) m a (omega arith) in
      if-case (Good (p + 20)) (abs_of (determinant_of own.direction it.direction) ≤ᶠ epsilon)
      (λ e. if-all (Good (p + 20)) _ gone (good h g t))
      (λ e.
      let a = not-le-apart (determinant_of own.direction it.direction) (within-finite d) epsilon-over e in
      if-all (Good (p + 20)) _ (crossed-good (crossing n) n h (min-within g (q a)))
      (crossed-good (crossing n) n (max-within h (q a)) g))

  chord-good : (limit : Float) (own : Line) → Within 159 limit → LineIn p own → Good (p + 20) (chord limit own)
  unfolding chord
  chord-good limit own L O =
      let a : Within (p + 2) (dot_of own.point own.direction) =
      dot-within (p + 2) O.point-in O.direction-in (omega arith) in
      let b = mul-within (p + p - 145) a a (omega arith) in
      let c = mul-within 169 L L (omega arith) in
      let d : Within (p + p - 148) (dot_of own.point own.point) =
      dot-within (p + p - 148) O.point-in O.point-in (omega arith) in
      let disc = sub_within (p + p - 143) (add-within (p + p - 144) b c (omega arith)) d (omega arith) in
      if-case (Good (p + 20)) _ (λ t. gone)
      (λ t.
      let r = sqrt-within (p + 3) disc t (omega arith) in
      good (wider (omega arith) (sub_within (p + 4) (neg-within a) r (omega arith)))
      (wider (omega arith) (add-within (p + 4) (neg-within a) r (omega arith)))
      (ends-le (p + 4) (neg-within a) r (sqrt-sign disc t (omega arith) r) (omega arith)))

  fold-good : (own : Line) → LineIn p own → {l : List Line} → All (LineIn p) l → {i : Interval} → Good (p + 20) i →
      Good (p + 20) (foldl (narrow own) i l)
  fold-good own O none g = g
  fold-good own O (more {x} h hs) g = fold-good own O hs (narrow_good own x O h g)

  pub on_line : (own : Line) {t : Float} → LineIn p own → Within (p + 20) t → Inside (p + 22) (point_on own t)
  unfolding point_on
  on_line own O T = add-inside (p + 22) O.point-in (mul-inside (p + 21) O.direction-in T (omega arith)) (omega arith)

  choose-lands : (own : Line) → LineIn p own → {o : Objective} → Aimed o → {i : Interval} → Good (p + 20) i →
      Lands (p + 22) (choose o own i)
  unfolding choose when◌then◌else◌
  choose-lands own O (aimed W) gone = misses
  choose-lands own O (pointed D) gone = misses
  choose-lands own O (aimed W) (good h g t) =
      let c = dot-within (p + 3) O.direction-in (sub-inside (p + 1) W O.point-in (omega arith)) (omega arith) in
      rw t (lands (on_line own O (clamp-within (wider (omega arith) c) h g)))
  choose-lands own O (pointed {d} D) (good h g t) =
      if-all (Lands (p + 22)) (0ᶠ <ᶠ dot_of d own.direction) (lands (on_line own O g)) (lands (on_line own O h))

  line-lands : (o : Objective) (limit : Float) (own : Line) {e : List Line} → Aimed o → Within 159 limit → LineIn p own
      → All (LineIn p) e → Lands (p + 22) (one_line o limit own e)
  unfolding one_line
  line-lands o limit own A L O E = choose-lands own O A (fold-good own O E (chord-good limit own L O))

  -- ---- a pass

  module _ (o : Objective) (limit : Float) (A : Aimed o) (L : Within 159 limit) (k : ℕ) (K : p + 22 ≤ k) where
    step-goes : (e : List Line) (own : Line) (s : Pass) → All (LineIn p) e → LineIn p own → Goes k s →
        Goes k (pass_line o limit e own s)
    unfolding pass_line
    step-goes e own s E O ends = ends
    step-goes e own s E O (goes {q} {n} h) =
        if-all (Goes k) _ (goes h) (solved-goes o (length e) q (n + 1) K (line-lands o limit own A L O E))

    pub pass-goes : {l : List Line} → All (LineIn p) l → Inside k (start o limit) → Goes k (pass o limit l)
    unfolding pass
    pass-goes h s = walk-keeps-over (pass_line o limit) (LineIn p) (Goes k) step-goes _ none h (judged-goes o 0 s)
