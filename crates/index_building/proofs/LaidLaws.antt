-- Laws of bytes laid over a buffer. Assumes nothing.
use Prim.Native.Nat.{ℕ, ◌+◌, ◌-◌, ◌≤◌}
use native.Mathlib.Omega.{arith}
use mathlib.Core.Path.{◌≡◌, refl, sym, ap, ◌∙◌}
use mathlib.Core.List.{List, [], ◌++◌}
use lib.ListN.{length, drop, length-append, length-drop}
use lib.Seq.{sets, sets-eq, take_at, drop_at, drop-drop}
use Rattle.index_building.specs.Indexes.{laid_over}

module _ (bytes l : List ℕ) (h : length bytes ≤ length l) where
  pub laid-length : length (laid_over bytes l) ≡ length l
  unfolding laid_over
  laid-length = length-append bytes (drop (length bytes) l) ∙ omega (arith, length-drop (length bytes) l)

  behind-laid : (k : ℕ) → drop (length bytes + k) (laid_over bytes l) ≡ drop (length bytes + k) l
  unfolding laid_over
  behind-laid k =
      sym (drop-drop k (length bytes) (bytes ++ drop (length bytes) l))
      ∙ ap (drop k) (drop_at bytes (drop (length bytes) l) (length bytes) refl) ∙ drop-drop k (length bytes) l

  pub laid-sets : (vs : List ℕ) (at : ℕ) → at ≡ length bytes → length bytes + length vs ≤ length l →
      sets (laid_over bytes l) at vs ≡ laid_over (bytes ++ vs) l
  unfolding laid_over
  laid-sets vs at e f =
      let fits : at + length vs ≤ length (laid_over bytes l) = omega (arith, laid-length) in
      sets-eq vs (laid_over bytes l) at fits
      ∙ rw (e, take_at bytes (drop (length bytes) l) (length bytes) refl, behind-laid (length vs), length-append bytes vs)

  -- more bytes laid over fewer
  pub laid-laid : (more : List ℕ) → length bytes ≤ length more → laid_over more (laid_over bytes l) ≡ laid_over more l
  unfolding laid_over
  laid-laid more f =
      let e : length bytes + (length more - length bytes) ≡ length more = omega arith in
      ap (λ (d : List ℕ). more ++ d) (rw e at (behind-laid (length more - length bytes)))

pub nothing-laid : (vs l : List ℕ) → length vs ≤ length l → sets l 0 vs ≡ laid_over vs l
unfolding laid_over
nothing-laid vs l h = laid-sets [] l (omega arith) vs 0 refl (omega arith)
