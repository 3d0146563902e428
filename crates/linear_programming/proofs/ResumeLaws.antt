-- The rules taken up again are the rules line by line: the probes taken before are only added, so that they may be
-- counted from 0. Assumes nothing.
use Prim.Native.Nat.{ℕ, ◌+◌, ◌≤◌}
use mathlib.Core.Path.{◌≡◌, refl, sym, ◌∙◌, ap}
use mathlib.Core.Bool.{Bool, true, false}
use mathlib.Core.List.{List, ◌++◌}
use native.Mathlib.Nat.{add-zero, add_assoc}
use lib.ListN.{length, take, drop}
use lib.Seq.{take_at, drop_at}
use lib.Ieee.{Float}
use Rattle.arithmetic.specs.Binary32.{0ᶠ, when◌then◌else◌}
use Rattle.common.specs.declared.Vec2.{Vec2}
use Rattle.lines.specs.declared.Line.{Line}
use Rattle.lines.specs.Lines.{most_lines}
use Rattle.one_line.specs.OneLine.{Objective, toward, along, Found, at, fails, refuses, one_line}
use Rattle.pass_2d.specs.Pass.{Pass, feasible, failed, refused, judged, solved, pass_line}
use Rattle.relaxation.specs.Relax.{Relaxed, relaxed, relax_refused, build_probes, replaced, relax_line}
use Rattle.relaxation.specs.Calls.{resumed_relaxation}
use Rattle.relaxation.proofs.CallLaws.{few-relaxed}
use Rattle.pass_2d.specs.Walk.{walk}
use Rattle.linear_programming.specs.Whole.{Phase, solving, relaxing, rigid_failure, Failed, no_line, failed_line, Outcome, stands, refusal, relaxed_outcome, whole_list}
use Rattle.linear_programming.specs.Resume.{add_probes, resumed}
use Rattle.pass_2d.proofs.WalkLaws.{walk_through}
use Rattle.linear_programming.proofs.Steps.{entered, advance, feed, feed-rigid, feed-relaxed, pass-feed, batch-whole}
use Rattle.linear_programming.proofs.WholeLaws.{Agrees, agree-solving, agree-relaxing, agree-rigid, whole-agrees}

-- where both branches go through g, the choice does
if-through : {A B : Type 0} (g : A → B) (b : Bool) {x y : A} {v w : B} → v ≡ g x → w ≡ g y → (when b then v else w)
    ≡ g (when b then x else y)
unfolding when◌then◌else◌
if-through g true h k = h
if-through g false h k = k

-- ---- n probes more, of a pass and of relaxation

abbrev pass_after : ℕ → Pass → Pass
pass_after n (feasible p m) = feasible p (n + m)
pass_after n (failed f p m) = failed f p (n + m)
pass_after n (refused r) = refused r

abbrev relaxed_after : ℕ → Relaxed → Relaxed
relaxed_after n (relaxed p depth m) = relaxed p depth (n + m)
relaxed_after n (relax_refused r) = relax_refused r

judged-after : (o : Objective) (p : Vec2) (n m : ℕ) → judged o p (n + m) ≡ pass_after n (judged o p m)
unfolding judged
judged-after (toward wish) p n m = if-through (pass_after n) _ refl refl
judged-after (along d) p n m = refl

solved-after : (o : Objective) (k : ℕ) (p : Vec2) (n m : ℕ) (f : Found) → solved o k p (n + m) f ≡ pass_after n (solved o k p m f)
unfolding solved
solved-after o k p n m (at q i) = rw add_assoc (judged-after o q n (m + i))
solved-after o k p n m (fails i cause) = rw add_assoc refl
solved-after o k p n m refuses = refl

pass-after : (o : Objective) (limit : Float) (n : ℕ) (e : List Line) (own : Line) (s : Pass) →
    pass_line o limit e own (pass_after n s) ≡ pass_after n (pass_line o limit e own s)
unfolding pass_line
pass-after o limit n e own (feasible p m) =
    if-through (pass_after n) _ (rw add_assoc refl)
    (rw add_assoc (solved-after o (length e) p n (m + 1) (one_line o limit own e)))
pass-after o limit n e own (failed f p m) = refl
pass-after o limit n e own (refused r) = refl

replaced-after : (own : Line) (p : Vec2) (depth : Float) (n m : ℕ) (s : Pass) → replaced own p depth (n + m) s
    ≡ relaxed_after n (replaced own p depth m s)
unfolding replaced
replaced-after own p depth n m (feasible q i) = if-through (relaxed_after n) _ (rw add_assoc refl) refl
replaced-after own p depth n m (failed f q i) = rw add_assoc refl
replaced-after own p depth n m (refused r) = refl

relax-after : (rigid : ℕ) (limit : Float) (n : ℕ) (e : List Line) (own : Line) (s : Relaxed) →
    relax_line rigid limit e own (relaxed_after n s) ≡ relaxed_after n (relax_line rigid limit e own s)
unfolding relax_line
relax-after rigid limit n e own (relaxed p depth m) =
    if-through (relaxed_after n) _ (rw add_assoc refl) (rw (add_assoc n m 1, add_assoc n (m + 1) (build_probes rigid e))
    (replaced-after own p depth n (m + 1 + build_probes rigid e) _))
relax-after rigid limit n e own (relax_refused r) = refl

relaxed-after : (n : ℕ) (f : Failed) (s : Relaxed) → relaxed_outcome f (relaxed_after n s) ≡ add_probes n (relaxed_outcome f s)
relaxed-after n f (relaxed p depth m) = refl
relaxed-after n f (relax_refused r) = refl

-- relaxation as it is called, counted from 0, behind the n probes that a pass took
module _ (rigid : ℕ) (limit : Float) (l : List Line) (short : length l ≤ most_lines) (from : ℕ) (p : Vec2)
    (depth : Float) (f : Failed) (n : ℕ) where
  pub relaxed-behind : (s : Relaxed) → s ≡ resumed_relaxation rigid limit l from p depth →
      add_probes n (relaxed_outcome f s) ≡ relaxed_outcome f (walk (relax_line rigid limit) (take from l) (drop from l)
      (relaxed p depth n))
  relaxed-behind s e =
      ap (λ (t : Relaxed). add_probes n (relaxed_outcome f t)) (e ∙ few-relaxed rigid limit l short from p depth)
      ∙ sym (relaxed-after n f (walk (relax_line rigid limit) (take from l) (drop from l) (relaxed p depth 0)))
      ∙ ap (relaxed_outcome f) (sym (walk_through (relax_line rigid limit) (relax_line rigid limit) (relaxed_after n)
      (relax-after rigid limit n) (take from l) (drop from l) (relaxed p depth 0))
      ∙ ap (λ (k : ℕ). walk (relax_line rigid limit) (take from l) (drop from l) (relaxed p depth k)) (add-zero n))

-- ---- and of the rules line by line

module _ (rigid : ℕ) (wish : Vec2) (limit : Float) (n : ℕ) where
  relaxing-after : (f : Failed) (e : List Line) (own : Line) (p : Vec2) (depth : Float) (m : ℕ) →
      relaxed_outcome f (relax_line rigid limit e own (relaxed p depth (n + m)))
      ≡ add_probes n (relaxed_outcome f (relax_line rigid limit e own (relaxed p depth m)))
  relaxing-after f e own p depth m = ap (relaxed_outcome f) (relax-after rigid limit n e own (relaxed p depth m))
      ∙ relaxed-after n f (relax_line rigid limit e own (relaxed p depth m))

  entered-after : (e : List Line) (own : Line) (q : Pass) → entered rigid limit e own (pass_after n q)
      ≡ add_probes n (entered rigid limit e own q)
  unfolding entered
  entered-after e own (feasible p m) = refl
  entered-after e own (failed f p m) = if-through (add_probes n) _ refl (relaxing-after (failed_line f) e own p 0ᶠ m)
  entered-after e own (refused r) = refl

  advance-after : (e : List Line) (own : Line) (s : Outcome) → advance rigid wish limit e own (add_probes n s)
      ≡ add_probes n (advance rigid wish limit e own s)
  unfolding advance
  advance-after e own (stands (solving p) f m) =
      ap (entered rigid limit e own) (pass-after (toward wish) limit n e own (feasible p m)) ∙ entered-after e own _
  advance-after e own (stands (relaxing p depth) f m) = relaxing-after f e own p depth m
  advance-after e own (stands (rigid_failure k p) f m) = refl
  advance-after e own (refusal r) = refl

  feed-after : (e l : List Line) (s : Outcome) → feed rigid wish limit e l (add_probes n s)
      ≡ add_probes n (feed rigid wish limit e l s)
  unfolding feed
  feed-after = walk_through (advance rigid wish limit) (advance rigid wish limit) (add_probes n) advance-after

-- ---- the rules taken up again

-- solving goes with no failed line; the other phases keep theirs, whichever it is
data Paired : Phase → Failed → Type 0 where
  paired-solving : {p : Vec2} → Paired (solving p) no_line
  paired-relaxing : {p : Vec2} {depth : Float} {f : Failed} → Paired (relaxing p depth) f
  paired-rigid : {k : ℕ} {p : Vec2} {f : Failed} → Paired (rigid_failure k p) f

agrees-paired : {ph : Phase} {f : Failed} {n : ℕ} → Agrees (stands ph f n) → Paired ph f
agrees-paired agree-solving = paired-solving
agrees-paired agree-relaxing = paired-relaxing
agrees-paired agree-rigid = paired-rigid

module _ (rigid : ℕ) (wish : Vec2) (limit : Float) (l m : List Line) where
  from_zero : {ph : Phase} {f : Failed} → Paired ph f → feed rigid wish limit l m (stands ph f 0)
      ≡ resumed rigid wish limit (l ++ m) (length l) ph f
  unfolding resumed
  from_zero (paired-solving {p}) =
      rw (take_at l m (length l) refl, drop_at l m (length l) refl) (sym (pass-feed rigid wish limit l m p 0))
  from_zero (paired-relaxing {p} {depth} {f}) =
      rw (take_at l m (length l) refl, drop_at l m (length l) refl)
      (feed-relaxed rigid wish limit f l m (relaxed p depth 0))
  from_zero (paired-rigid {k} {p} {f}) = feed-rigid rigid wish limit k p f 0 l m

  resumed-feed : (ph : Phase) (f : Failed) (n : ℕ) → Paired ph f → feed rigid wish limit l m (stands ph f n)
      ≡ add_probes n (resumed rigid wish limit (l ++ m) (length l) ph f)
  resumed-feed ph f n h =
      ap (λ (k : ℕ). feed rigid wish limit l m (stands ph f k)) (sym (add-zero n))
      ∙ feed-after rigid wish limit n l m (stands ph f 0) ∙ ap (add_probes n) (from_zero h)

  -- a list that stands, with lines behind it: the rules taken up again end as the whole list does
  pub resumed-whole : {ph : Phase} {f : Failed} {n : ℕ} → whole_list rigid wish limit l ≡ stands ph f n →
      add_probes n (resumed rigid wish limit (l ++ m) (length l) ph f) ≡ whole_list rigid wish limit (l ++ m)
  resumed-whole {ph} {f} {n} e =
      sym (resumed-feed ph f n (agrees-paired (rw e at (whole-agrees rigid wish limit l))))
      ∙ rw (← e) (batch-whole rigid wish limit l m)
