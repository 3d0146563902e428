-- Laws of the tightened list: one line more, as the loop adds it; how long it is; a rigid count beyond the list. Assumes nothing.
use Prim.Native.Nat.{ℕ, ◌+◌, ◌-◌, ◌≤◌, min}
use mathlib.Core.Path.{◌≡◌, refl, sym, ◌∙◌, ap}
use mathlib.Core.List.{List, [], ◌∷◌, ◌++◌, foldl}
use native.Mathlib.Omega.{arith}
use native.Mathlib.Nat.{le_refl}
use lib.ListN.{length, length-append, length-drop, take, drop, take-append-drop}
use lib.Ieee.{Float}
use Rattle.lines.specs.declared.Line.{Line}
use Rattle.lines.proofs.Fold.{take-lesser, drop-lesser}
use Rattle.relaxation.specs.Relax.{Tight, kept, skipped, tighten, behind, tighten_next, tightened, build_probes, relax_refused, relax_line}

module _ (own : Line) (made : List Line) (prev : Line) where
  pub next-kept : (l : Line) → kept l ≡ tighten own prev → tighten_next own made prev ≡ made ++ (l ∷ [])
  unfolding tighten_next
  next-kept l h = rw (← h)

  pub next-skipped : skipped ≡ tighten own prev → tighten_next own made prev ≡ made
  unfolding tighten_next
  next-skipped h = rw (← h)

-- a rigid count beyond the list is the list's length
pub lesser-rigid : (rigid : ℕ) (own : Line) (e : List Line) {index r : ℕ} → length e ≡ index → r ≡ min rigid index →
    tightened r own e ≡ tightened rigid own e
unfolding tightened
lesser-rigid rigid own e n h = rw (h, ← n, take-lesser rigid e, drop-lesser rigid e)

-- the lines behind the rigid ones are those examined
pub examined : (rigid : ℕ) (e : List Line) {index r : ℕ} → length e ≡ index → r ≡ min rigid index →
    index - r ≡ build_probes rigid e
examined rigid e n h = rw (h, ← n, ← drop-lesser rigid e, length-drop)

-- a refusal of relaxation stays
pub relax-refused-stays : (rigid : ℕ) (limit : Float) (r : ℕ) (e : List Line) (own : Line) →
    relax_line rigid limit e own (relax_refused r) ≡ relax_refused r
unfolding relax_line
relax-refused-stays rigid limit r e own = refl

-- ---- it is no longer than the list before

behind-long : (made : List Line) (t : Tight) → length (behind made t) ≤ length made + 1
behind-long made (kept l) = rw length-append (le_refl _)
behind-long made skipped = omega arith

fold-long : (own : Line) (made l : List Line) → length (foldl (tighten_next own) made l) ≤ length made + length l
unfolding tighten_next
fold-long own made [] = omega arith
fold-long own made (x ∷ xs) =
    let h = fold-long own (behind made (tighten own x)) xs in
    omega (arith, behind-long made (tighten own x))

pub tightened-long : (rigid : ℕ) (own : Line) (e : List Line) → length (tightened rigid own e) ≤ length e
unfolding tightened
tightened-long rigid own e =
    let h = fold-long own (take rigid e) (drop rigid e) in
    let k : length (take rigid e) + length (drop rigid e) ≡ length e = sym (length-append (take rigid e) (drop rigid e))
    ∙ ap length (take-append-drop rigid e) in
    omega arith
