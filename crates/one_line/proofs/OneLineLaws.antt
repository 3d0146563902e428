-- Laws of the one-line solve: each earlier line is looked at once, an empty interval stays empty, and the line that its
-- cause names is an earlier one. Assumes nothing.
use Prim.Native.Nat.{ℕ, suc, ◌+◌, ◌≤◌, ◌<◌}
use mathlib.Core.Path.{◌≡◌, refl}
use mathlib.Core.Bool.{Bool}
use mathlib.Core.List.{List, [], ◌∷◌, foldl}
use native.Mathlib.Omega.{arith}
use native.Mathlib.Nat.{le_refl, add-zero}
use lib.ListN.{length}
use lib.Ieee.{Float}
use Rattle.arithmetic.proofs.Choice.{if-all}
use Rattle.common.specs.declared.Vec2.{Vec2}
use Rattle.lines.specs.declared.Line.{Line}
use Rattle.lines.proofs.Fold.{fold_stays}
use Rattle.one_line.specs.OneLine.{Objective, toward, along, Cause, circle, parallel, crossing, Interval, between, empty, chord, unless_fails, cut, narrow, Found, at, fails, refuses, choose, one_line}

pub empty-stays : (own : Line) (n : ℕ) (cause : Cause) (it : Line) → narrow own (empty n cause) it ≡ empty n cause
unfolding narrow
empty-stays own n cause it = refl

-- ---- a cause that names no line but one of the first i

pub data Earlier (i : ℕ) : Cause → Type 0 where
  by-circle : Earlier i circle
  by-parallel : {k : ℕ} → k < i → Earlier i (parallel k)
  by-crossing : {k : ℕ} → k < i → Earlier i (crossing k)

earlier_on : {i : ℕ} {cause : Cause} → Earlier i cause → Earlier (i + 1) cause
earlier_on by-circle = by-circle
earlier_on (by-parallel {k} h) = by-parallel {k = k} (omega arith)
earlier_on (by-crossing {k} h) = by-crossing {k = k} (omega arith)

-- ---- an interval that is left has looked at i lines, and one that is gone at no more, by one of them or the circle

data Opens (i : ℕ) : Interval → Type 0 where
  opens : {l r : Float} → Opens i (between l r i)
  shuts : {n : ℕ} {cause : Cause} → n ≤ i → Earlier i cause → Opens i (empty n cause)

unless-opens : (b : Bool) {cause : Cause} (left right : Float) (n : ℕ) → Earlier (n + 1) cause →
    Opens (n + 1) (unless_fails b cause left right n)
unfolding unless_fails
unless-opens b left right n h = if-all (Opens (n + 1)) _ (shuts (le_refl _) h) opens

narrow-opens : (own it : Line) (i : ℕ) {s : Interval} → Opens i s → Opens (i + 1) (narrow own s it)
unfolding narrow cut
narrow-opens own it i opens =
    let ends : Earlier (i + 1) (crossing i) = by-crossing {k = i} (omega arith) in
    if-all (Opens (i + 1)) _ (unless-opens _ _ _ i (by-parallel {k = i} (omega arith)))
    (if-all (Opens (i + 1)) _ (unless-opens _ _ _ i ends) (unless-opens _ _ _ i ends))
narrow-opens own it i (shuts {n} h by) = shuts {n = n} (omega arith) (earlier_on by)

fold-opens : (own : Line) (l : List Line) (i : ℕ) (s : Interval) → Opens i s → Opens (i + length l) (foldl (narrow own) s l)
fold-opens own [] i s h = rw add-zero h
fold-opens own (x ∷ xs) i s h =
    let e : i + suc (length xs) ≡ i + 1 + length xs = omega arith in
    rw e (fold-opens own xs (i + 1) (narrow own s x) (narrow-opens own x i h))

chord-opens : (limit : Float) (own : Line) → Opens 0 (chord limit own)
unfolding chord
chord-opens limit own = if-all (Opens 0) _ (shuts (le_refl _) by-circle) opens

-- ---- a solved line has looked at every earlier one, a failing one at no more

pub data Solves (i : ℕ) : Found → Type 0 where
  solves : {q : Vec2} → Solves i (at q i)
  stops : {n : ℕ} {cause : Cause} → n ≤ i → Earlier i cause → Solves i (fails n cause)
  stops-refused : Solves i refuses

choose-solves : (o : Objective) (own : Line) (i : ℕ) {s : Interval} → Opens i s → Solves i (choose o own s)
unfolding choose
choose-solves (toward w) own i opens = if-all (Solves i) _ solves stops-refused
choose-solves (along d) own i opens = if-all (Solves i) _ solves solves
choose-solves (toward w) own i (shuts h by) = stops h by
choose-solves (along d) own i (shuts h by) = stops h by

pub line-solves : (o : Objective) (limit : Float) (own : Line) (e : List Line) → Solves (0 + length e) (one_line o limit own e)
unfolding one_line
line-solves o limit own e = choose-solves o own (0 + length e) (fold-opens own e 0 (chord limit own) (chord-opens limit own))

-- ---- the steps of the solve, as the code takes them

module _ (o : Objective) (limit : Float) (own : Line) (e : List Line) where
  -- the line misses the circle
  pub missed : (cause : Cause) → empty 0 cause ≡ chord limit own → fails 0 cause ≡ one_line o limit own e
  unfolding one_line choose
  missed cause h = rw (← h, fold_stays (narrow own) (empty 0 cause) (empty-stays own 0 cause) e)

  -- what the earlier lines leave of the chord is searched for the best value
  pub narrowed : (l r : Float) (s : Interval) → between l r 0 ≡ chord limit own →
      s ≡ foldl (narrow own) (between l r 0) e → choose o own s ≡ one_line o limit own e
  unfolding one_line
  narrowed l r s h k = rw (k, ← h)
