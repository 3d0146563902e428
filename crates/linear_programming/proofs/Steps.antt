-- The rules, line by line: how a list stands after one line more, from how it stood before, and the law that this is
-- the whole-list rules over the longer list (`batch-whole`). Both walk the 2D pass alike up to the line that fails;
-- from there both are relaxation. Assumes nothing.
use Prim.Native.Nat.{ℕ}
use mathlib.Core.Path.{◌≡◌, refl, sym}
use mathlib.Core.Bool.{Bool, true, false}
use mathlib.Core.List.{List, [], ◌∷◌, ◌++◌}
use lib.ListN.{length}
use lib.Seq.{append_snoc, take_at, drop_at}
use lib.Dec.{ltb}
use lib.Ieee.{Float}
use Rattle.arithmetic.specs.Binary32.{0ᶠ, when◌then◌else◌}
use Rattle.common.specs.declared.Vec2.{Vec2}
use Rattle.lines.specs.declared.Line.{Line}
use Rattle.pass_2d.specs.Walk.{walk}
use Rattle.one_line.specs.OneLine.{toward}
use Rattle.pass_2d.specs.Pass.{Pass, feasible, failed, refused, start, pass_line, pass}
use Rattle.relaxation.specs.Relax.{Relaxed, relaxed, relax_refused, relax_line}
use Rattle.linear_programming.specs.Whole.{solving, relaxing, rigid_failure, Failed, no_line, failed_line, Outcome, stands, refusal, relaxed_outcome, after_pass, whole_list}
use Rattle.pass_2d.proofs.WalkLaws.{walk-append, walk-stays, walk_through}
use Rattle.pass_2d.proofs.PassLaws.{pass-failed, pass-refused, FailsAt, still, there, never, Unfailed, unfailed-feasible, unfailed-refused, judged-unfailed, pass-fails}

-- ---- one line

-- what a line of the 2D pass leaves; where it failed and is not rigid, relaxation begins at the line itself
unfoldable pub entered : ℕ → Float → List Line → Line → Pass → Outcome
entered rigid limit earlier own (feasible p n) = stands (solving p) no_line n
entered rigid limit earlier own (failed f p n) =
    when ltb f.index rigid then stands (rigid_failure f.index p) (failed_line f) n
    else relaxed_outcome (failed_line f) (relax_line rigid limit earlier own (relaxed p 0ᶠ n))
entered rigid limit earlier own (refused r) = refusal r

-- one line, by the phase that the earlier ones left
unfoldable pub advance : ℕ → Vec2 → Float → List Line → Line → Outcome → Outcome
advance rigid wish limit earlier own (stands (solving p) f n) =
    entered rigid limit earlier own (pass_line (toward wish) limit earlier own (feasible p n))
advance rigid wish limit earlier own (stands (relaxing p depth) f n) =
    relaxed_outcome f (relax_line rigid limit earlier own (relaxed p depth n))
advance rigid wish limit earlier own (stands (rigid_failure k p) f n) = stands (rigid_failure k p) f n
advance rigid wish limit earlier own (refusal r) = refusal r

-- the lines of a batch, one by one, behind the earlier ones
unfoldable pub feed : ℕ → Vec2 → Float → List Line → List Line → Outcome → Outcome
feed rigid wish limit earlier lines s = walk (advance rigid wish limit) earlier lines s

module _ (rigid : ℕ) (wish : Vec2) (limit : Float) where
  -- ---- what is over stays, and relaxation goes on as relaxation

  pub feed-rigid : (k : ℕ) (p : Vec2) (f : Failed) (n : ℕ) (e l : List Line) →
      feed rigid wish limit e l (stands (rigid_failure k p) f n) ≡ stands (rigid_failure k p) f n
  unfolding feed advance
  feed-rigid k p f n = walk-stays (advance rigid wish limit) (stands (rigid_failure k p) f n) (λ e x. refl)

  pub feed-refusal : (r : ℕ) (e l : List Line) → feed rigid wish limit e l (refusal r) ≡ refusal r
  unfolding feed advance
  feed-refusal r = walk-stays (advance rigid wish limit) (refusal r) (λ e x. refl)

  advance-relaxed : (f : Failed) (e : List Line) (own : Line) (s : Relaxed) →
      advance rigid wish limit e own (relaxed_outcome f s) ≡ relaxed_outcome f (relax_line rigid limit e own s)
  unfolding advance relax_line
  advance-relaxed f e own (relaxed p depth n) = refl
  advance-relaxed f e own (relax_refused r) = refl

  pub feed-relaxed : (f : Failed) (e l : List Line) (s : Relaxed) → feed rigid wish limit e l (relaxed_outcome f s)
      ≡ relaxed_outcome f (walk (relax_line rigid limit) e l s)
  unfolding feed
  feed-relaxed f = walk_through (relax_line rigid limit) (advance rigid wish limit) (relaxed_outcome f) (advance-relaxed f)

  -- ---- the 2D pass and what follows it, line by line

  -- line x has failed, be it rigid (b) or not
  from-failed : (b : Bool) (k : ℕ) (f : Failed) (p : Vec2) (n : ℕ) (e : List Line) (x : Line) (xs : List Line) →
      (when b then stands (rigid_failure k p) f n else relaxed_outcome f (walk (relax_line rigid limit) e (x ∷ xs) (relaxed p 0ᶠ n)))
      ≡ feed rigid wish limit (e ++ (x ∷ [])) xs (when b then stands (rigid_failure k p) f n else relaxed_outcome f
      (relax_line rigid limit e x (relaxed p 0ᶠ n)))
  unfolding when◌then◌else◌
  from-failed true k f p n e x xs = sym (feed-rigid k p f n (e ++ (x ∷ [])) xs)
  from-failed false k f p n e x xs = sym (feed-relaxed f (e ++ (x ∷ [])) xs (relax_line rigid limit e x (relaxed p 0ᶠ n)))

  -- from what line x left, q, both go on alike
  from-line : (e : List Line) (x : Line) (xs : List Line) →
      ((p : Vec2) (n : ℕ) → after_pass rigid limit ((e ++ (x ∷ [])) ++ xs)
      (walk (pass_line (toward wish) limit) (e ++ (x ∷ [])) xs (feasible p n))
      ≡ feed rigid wish limit (e ++ (x ∷ [])) xs (stands (solving p) no_line n)) →
      {q : Pass} → FailsAt (length e) q →
      after_pass rigid limit (e ++ x ∷ xs) (walk (pass_line (toward wish) limit) (e ++ (x ∷ [])) xs q)
      ≡ feed rigid wish limit (e ++ (x ∷ [])) xs (entered rigid limit e x q)
  unfolding after_pass entered
  from-line e x xs ih (still {p} {n}) = rw append_snoc at (ih p n)
  from-line e x xs ih (there {f} {p} {n} h) =
      rw (
        pass-failed (toward wish) limit f p n (e ++ (x ∷ [])) xs,
        take_at e (x ∷ xs) f.index (sym h),
        drop_at e (x ∷ xs) f.index (sym h),
      )
      (from-failed (ltb f.index rigid) f.index (failed_line f) p n e x xs)
  from-line e x xs ih (never {r}) = rw (
    pass-refused (toward wish) limit r (e ++ (x ∷ [])) xs,
    feed-refusal r (e ++ (x ∷ [])) xs,
  ) refl

  -- from any line of the 2D pass on
  pub pass-feed : (e l : List Line) (p : Vec2) (n : ℕ) →
      after_pass rigid limit (e ++ l) (walk (pass_line (toward wish) limit) e l (feasible p n))
      ≡ feed rigid wish limit e l (stands (solving p) no_line n)
  unfolding after_pass feed advance
  pass-feed e [] p n = refl
  pass-feed e (x ∷ xs) p n = from-line e x xs (pass-feed (e ++ (x ∷ [])) xs) (pass-fails (toward wish) limit e x p n)

  start-feed : (l : List Line) {q : Pass} → Unfailed q →
      after_pass rigid limit l (walk (pass_line (toward wish) limit) [] l q)
      ≡ feed rigid wish limit [] l (after_pass rigid limit [] q)
  unfolding after_pass
  start-feed l (unfailed-feasible {p} {n}) = pass-feed [] l p n
  start-feed l (unfailed-refused {r}) = rw (pass-refused (toward wish) limit r [] l, feed-refusal r [] l) refl

  -- the whole list, line by line
  pub whole-feed : (l : List Line) → whole_list rigid wish limit l ≡ feed rigid wish limit [] l (whole_list rigid wish limit [])
  unfolding whole_list pass
  whole-feed l = start-feed l (judged-unfailed (toward wish) (start (toward wish) limit) 0)

  -- A batch fed to what the lines before it left ends as the whole list does: phase, point, penetration, failed line,
  -- probes and refusal are all in the outcome.
  pub batch-whole : (l m : List Line) → feed rigid wish limit l m (whole_list rigid wish limit l)
      ≡ whole_list rigid wish limit (l ++ m)
  unfolding feed
  batch-whole l m = rw (
    whole-feed (l ++ m),
    whole-feed l,
    walk-append (advance rigid wish limit) [] l m
        (whole_list rigid wish limit []),
  ) refl
