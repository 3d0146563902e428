-- Laws of whole lists and their beginnings: a refusal of the solve stays, the failed line stays, and phase and failed
-- line fit each other. Each goes by the rules line by line (Steps). Assumes nothing.
use Prim.Native.Nat.{ℕ}
use mathlib.Core.Path.{◌≡◌, refl, sym, ◌∙◌}
use mathlib.Core.List.{List, [], ◌++◌}
use lib.Ieee.{Float}
use Rattle.arithmetic.specs.Binary32.{0ᶠ}
use Rattle.arithmetic.proofs.Choice.{if-all}
use Rattle.common.specs.declared.Vec2.{Vec2}
use Rattle.lines.specs.declared.Line.{Line}
use Rattle.one_line.specs.OneLine.{toward}
use Rattle.pass_2d.specs.Pass.{Failure, Pass, feasible, failed, refused, pass}
use Rattle.relaxation.specs.Relax.{Relaxed, relaxed, relax_refused, relax_line}
use Rattle.linear_programming.specs.Whole.{Phase, solving, relaxing, rigid_failure, Failed, no_line, failed_line, Outcome, stands, refusal, relaxed_outcome, after_pass, whole_list}
use Rattle.pass_2d.proofs.WalkLaws.{walk-keeps}
use Rattle.pass_2d.proofs.PassLaws.{Unfailed, unfailed-feasible, unfailed-refused, judged-unfailed}
use Rattle.linear_programming.proofs.Steps.{entered, advance, feed, feed-refusal, whole-feed, batch-whole}

-- the failed line is f, or nothing stands
pub data FailedAt (f : Failure) : Outcome → Type 0 where
  at-relaxing : {p : Vec2} {depth : Float} {n : ℕ} → FailedAt f (stands (relaxing p depth) (failed_line f) n)
  at-rigid : {p : Vec2} {n : ℕ} → FailedAt f (stands (rigid_failure f.index p) (failed_line f) n)
  at-refusal : {r : ℕ} → FailedAt f (refusal r)

-- solving has no failed line, relaxing one, and a rigid failure's is its index
pub data Agrees : Outcome → Type 0 where
  agree-solving : {p : Vec2} {n : ℕ} → Agrees (stands (solving p) no_line n)
  agree-relaxing : {p : Vec2} {depth : Float} {f : Failure} {n : ℕ} → Agrees (stands (relaxing p depth) (failed_line f) n)
  agree-rigid : {f : Failure} {p : Vec2} {n : ℕ} → Agrees (stands (rigid_failure f.index p) (failed_line f) n)
  agree-refusal : {r : ℕ} → Agrees (refusal r)

failed-agrees : {f : Failure} {s : Outcome} → FailedAt f s → Agrees s
failed-agrees at-relaxing = agree-relaxing
failed-agrees at-rigid = agree-rigid
failed-agrees at-refusal = agree-refusal

agrees-failed : {ph : Phase} {f : Failure} {n : ℕ} → Agrees (stands ph (failed_line f) n) → FailedAt f (stands ph (failed_line f) n)
agrees-failed agree-relaxing = at-relaxing
agrees-failed agree-rigid = at-rigid

the-failed : {ph : Phase} {f : Failure} {g : Failed} {n : ℕ} → FailedAt f (stands ph g n) → g ≡ failed_line f
the-failed at-relaxing = refl
the-failed at-rigid = refl

-- relaxation keeps the failed line
relaxed-failed : (f : Failure) (s : Relaxed) → FailedAt f (relaxed_outcome (failed_line f) s)
relaxed-failed f (relaxed p depth n) = at-relaxing
relaxed-failed f (relax_refused r) = at-refusal

module _ (rigid : ℕ) (wish : Vec2) (limit : Float) where
  -- ---- one line

  advance-failed : (f : Failure) (e : List Line) (own : Line) (s : Outcome) → FailedAt f s →
      FailedAt f (advance rigid wish limit e own s)
  unfolding advance
  advance-failed f e own s (at-relaxing {p} {depth} {n}) = relaxed-failed f (relax_line rigid limit e own (relaxed p depth n))
  advance-failed f e own s at-rigid = at-rigid
  advance-failed f e own s at-refusal = at-refusal

  entered-agrees : (e : List Line) (own : Line) (q : Pass) → Agrees (entered rigid limit e own q)
  unfolding entered
  entered-agrees e own (feasible p n) = agree-solving
  entered-agrees e own (failed f p n) =
      if-all Agrees _ agree-rigid (failed-agrees (relaxed-failed f (relax_line rigid limit e own (relaxed p 0ᶠ n))))
  entered-agrees e own (refused r) = agree-refusal

  advance-agrees : (e : List Line) (own : Line) (s : Outcome) → Agrees s → Agrees (advance rigid wish limit e own s)
  unfolding advance
  advance-agrees e own s agree-solving = entered-agrees e own _
  advance-agrees e own s (agree-relaxing {p} {depth} {f} {n}) =
      failed-agrees (relaxed-failed f (relax_line rigid limit e own (relaxed p depth n)))
  advance-agrees e own s agree-rigid = agree-rigid
  advance-agrees e own s agree-refusal = agree-refusal

  start-agrees : {q : Pass} → Unfailed q → Agrees (after_pass rigid limit [] q)
  unfolding after_pass
  start-agrees unfailed-feasible = agree-solving
  start-agrees unfailed-refused = agree-refusal

  -- ---- whole lists

  -- where the solve of a beginning is refused, so is that of the list, with the same number: a list that stands has no
  -- beginning whose solve is refused
  pub prefix-refused : (l m : List Line) (r : ℕ) → whole_list rigid wish limit l ≡ refusal r →
      whole_list rigid wish limit (l ++ m) ≡ refusal r
  prefix-refused l m r h = sym (batch-whole rigid wish limit l m) ∙ rw h (feed-refusal rigid wish limit r l m)

  -- once a line has failed it stays the failed line
  pub stays-failed : (f : Failure) (l m : List Line) → FailedAt f (whole_list rigid wish limit l) →
      FailedAt f (whole_list rigid wish limit (l ++ m))
  unfolding feed
  stays-failed f l m h = rw (← batch-whole rigid wish limit l m) (walk-keeps (advance rigid wish limit) (FailedAt f)
      (advance-failed f) l m _ h)

  -- phase and failed line fit each other
  pub whole-agrees : (l : List Line) → Agrees (whole_list rigid wish limit l)
  unfolding feed whole_list pass
  whole-agrees l = rw (whole-feed rigid wish limit l) (walk-keeps (advance rigid wish limit) Agrees advance-agrees [] l
      _ (start-agrees (judged-unfailed (toward wish) _ 0)))

  -- so two lists that stand, one the beginning of the other, have the same failed line, if the shorter has one
  pub failed-line-stays : (l m : List Line) {ph qh : Phase} {f : Failure} {g : Failed} {n k : ℕ} →
      whole_list rigid wish limit l ≡ stands ph (failed_line f) n → whole_list rigid wish limit (l ++ m) ≡ stands qh g k →
      g ≡ failed_line f
  failed-line-stays l m {f = f} d e = the-failed (rw e at (stays-failed f l m (rw d (agrees-failed (rw d at (whole-agrees l))))))
