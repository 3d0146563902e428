-- The edges in order: one edge more, a refusal that stays; every answer refuses with 9 or has few lines, all admitted;
-- and the lines are those of the edges that are told beside them. Assumes nothing.
use Prim.Native.Nat.{ℕ, zero, suc, ◌+◌, ◌-◌, ◌/◌, ◌≤◌, ◌<◌}
use mathlib.Core.Path.{◌≡◌, refl, ap}
use mathlib.Core.List.{List, [], ◌∷◌, ◌++◌, append-nil}
use native.Mathlib.Omega.{arith}
use native.Mathlib.Nat.{zero-add, suc-add}
use native.Mathlib.Numerals.{add-one}
use lib.Dec.{eqb}
use lib.ListN.{length, length-append}
use lib.Ieee.{Float}
use borrow.Author.Tests.{lt-ltb}
use Rattle.arithmetic.specs.Binary32.{when◌then◌else◌}
use Rattle.arithmetic.proofs.Choice.{if-all}
use Rattle.common.specs.declared.Vec2.{Vec2}
use Rattle.lines.specs.declared.Line.{Line}
use Rattle.lines.specs.LineFaults.{line_fault, lines_fault}
use Rattle.lines.proofs.JudgeLaws.{faults-append}
use Rattle.admission.specs.Faults.{fine}
use Rattle.admission.proofs.FaultLaws.{unless-case}
use Rattle.edges.specs.declared.Agent.{Agent}
use Rattle.edges.specs.Edges.{EdgeLine, nothing, made}
use Rattle.obstacles.specs.Vertices.{vertices_of, edge_at}
use Rattle.edges.specs.EdgeLines.{line_for_edge}
use Rattle.obstacles.specs.Obstacles.{Answer, lines, refused, Admitted, kept, nothing_kept, not_admitted, admitted, behind, add_edge, lines_up_to, edge_count, line_alone, obstacle_lines, maker, maker_behind, makers_up_to, obstacle_edges}

-- the answer refuses with 9, or its lines are at most n and pass the admission of a list
pub data FewAdmitted (n : ℕ) : Answer → Type 0 where
  refuses : {r : ℕ} → r ≡ 9 → FewAdmitted n (refused r)
  few-admitted : {ls : List Line} → length ls ≤ n → lines_fault ls ≡ fine → FewAdmitted n (lines ls)

behind-few-admitted : (n : ℕ) (ls : List Line) (e : EdgeLine) → length ls ≤ n → lines_fault ls ≡ fine →
    FewAdmitted (suc n) (behind ls (admitted e))
unfolding admitted lines_fault
behind-few-admitted n ls nothing few all = few-admitted {ls = ls} (omega arith) all
behind-few-admitted n ls (made l) few all =
    unless-case (λ (a : Admitted). FewAdmitted (suc n) (behind ls a)) (λ (r : ℕ). not_admitted 9) (line_fault l)
    (λ e. few-admitted {ls = ls ++ (l ∷ [])} (rw length-append (omega arith)) (rw (faults-append ls (l ∷ []), all, e)))
    (λ r e. refuses refl)

more-few-admitted : (n m : ℕ) (a : Answer) → n ≤ m → FewAdmitted n a → FewAdmitted m a
more-few-admitted n m (refused r) h (refuses e) = refuses e
more-few-admitted n m (lines ls) h (few-admitted few all) = few-admitted {ls = ls} (omega arith) all

pub few-edges : (kind n : ℕ) → edge_count kind n ≤ n
unfolding edge_count
few-edges kind n = if-all (λ (m : ℕ). m ≤ n) (eqb kind 2) (omega arith) (omega arith)

pub few-counted : (kind n : ℕ) {m : ℕ} → m ≡ edge_count kind n → m ≤ n
few-counted kind n e = rw e (few-edges kind n)

module _ (agent : Agent) (kind n : ℕ) (vs : List Vec2) (margin horizon : Float) where
  abbrev up_to : ℕ → Answer
  up_to = lines_up_to agent kind n vs margin horizon

  abbrev edge : ℕ → List Line → Admitted
  edge i ls = admitted (line_for_edge agent (edge_at kind n vs i) margin horizon ls)

  -- an edge's line that is asked for alone is its line
  pub alone-edge : (xs : List Float) (i : ℕ) (ls : List Line) → length xs / 2 ≡ n → vertices_of xs ≡ vs →
      i < edge_count kind n → line_alone agent kind xs i margin horizon ls ≡ edge i ls
  unfolding line_alone when◌then◌else◌
  alone-edge xs i ls e f h = rw (e, f, lt-ltb i (edge_count kind n) h)

  pub add_kept : (i : ℕ) (ls : List Line) (l : Line) → up_to i ≡ lines ls → kept l ≡ edge i ls →
      up_to (i + 1) ≡ lines (ls ++ (l ∷ []))
  unfolding lines_up_to add_edge
  add_kept i ls l e h = rw (add-one, e, ← h)

  pub add_nothing : (i : ℕ) (ls : List Line) → up_to i ≡ lines ls → nothing_kept ≡ edge i ls → up_to (i + 1) ≡ lines ls
  unfolding lines_up_to add_edge
  add_nothing i ls e h = rw (add-one, e, ← h)

  stays : (r d k : ℕ) → up_to k ≡ refused r → up_to (d + k) ≡ refused r
  unfolding lines_up_to add_edge
  stays r zero k e = rw zero-add e
  stays r (suc d) k e = rw (suc-add, stays r d k e)

  -- a line that is not admitted refuses the whole obstacle
  pub add-refused : (i m : ℕ) (ls : List Line) (r : ℕ) → up_to i ≡ lines ls → not_admitted r ≡ edge i ls → i + 1 ≤ m →
      up_to m ≡ refused r
  unfolding lines_up_to add_edge
  add-refused i m ls r e h k =
      let now : up_to (i + 1) ≡ refused r = rw (add-one, e, ← h) in
      let f : m ≡ (m - (i + 1)) + (i + 1) = omega arith in
      rw f (stays r (m - (i + 1)) (i + 1) now)

  edge-few-admitted : (k : ℕ) (a : Answer) → FewAdmitted k a → FewAdmitted (suc k) (add_edge agent kind n vs margin horizon a k)
  unfolding add_edge
  edge-few-admitted k (refused r) (refuses e) = refuses e
  edge-few-admitted k (lines ls) (few-admitted few all) =
      behind-few-admitted k ls (line_for_edge agent (edge_at kind n vs k) margin horizon ls) few all

  up-to-few-admitted : (k : ℕ) → FewAdmitted k (up_to k)
  unfolding lines_up_to lines_fault
  up-to-few-admitted zero = few-admitted {ls = []} (omega arith) refl
  up-to-few-admitted (suc k) = edge-few-admitted k (up_to k) (up-to-few-admitted k)

  -- the lines of n vertices are at most n, and each is admitted; they are refused with 9 alone
  pub lines-few-admitted : FewAdmitted n (obstacle_lines agent kind n vs margin horizon)
  unfolding obstacle_lines
  lines-few-admitted = more-few-admitted (edge_count kind n) n _ (few-edges kind n) (up-to-few-admitted (edge_count kind n))

  -- ---- the edges that made the lines

  abbrev made_up_to : ℕ → List ℕ
  made_up_to = makers_up_to agent kind n vs margin horizon

  pub maker-kept : (i : ℕ) (ls : List Line) (l : Line) → up_to i ≡ lines ls → kept l ≡ edge i ls →
      made_up_to (i + 1) ≡ made_up_to i ++ (i ∷ [])
  unfolding makers_up_to
  maker-kept i ls l e h = rw (add-one, e, ← h)

  pub maker-nothing : (i : ℕ) (ls : List Line) → up_to i ≡ lines ls → nothing_kept ≡ edge i ls → made_up_to (i + 1) ≡ made_up_to i
  unfolding makers_up_to
  maker-nothing i ls e h = rw (add-one, e, ← h) (append-nil (made_up_to i))

  -- each line, behind those before it, is that of the edge told beside it
  pub data MadeBy : List Line → List ℕ → Type 0 where
    none_made : MadeBy [] []
    one-made : {ls : List Line} {es : List ℕ} {l : Line} (i : ℕ) → MadeBy ls es → kept l ≡ edge i ls →
        MadeBy (ls ++ (l ∷ [])) (es ++ (i ∷ []))

  data AnswerMade : Answer → List ℕ → Type 0 where
    refused-made : {r : ℕ} {es : List ℕ} → AnswerMade (refused r) es
    lines-made : {ls : List Line} {es : List ℕ} → MadeBy ls es → AnswerMade (lines ls) es

  edge-made : (k : ℕ) (ls : List Line) (es : List ℕ) (a : Admitted) → a ≡ edge k ls → MadeBy ls es →
      AnswerMade (behind ls a) (es ++ maker k a)
  edge-made k ls es (kept l) e m = lines-made (one-made k m e)
  edge-made k ls es nothing_kept e m = lines-made {ls = ls} {es = es ++ []} (rw (append-nil es) m)
  edge-made k ls es (not_admitted r) e m = refused-made

  next-made : (k : ℕ) (a : Answer) (es : List ℕ) → AnswerMade a es →
      AnswerMade (add_edge agent kind n vs margin horizon a k) (es ++ maker_behind agent kind n vs margin horizon a k)
  unfolding add_edge
  next-made k (refused r) es refused-made = refused-made
  next-made k (lines ls) es (lines-made m) = edge-made k ls es (edge k ls) refl m

  up-to-made : (k : ℕ) → AnswerMade (up_to k) (made_up_to k)
  unfolding lines_up_to makers_up_to
  up-to-made zero = lines-made none_made
  up-to-made (suc k) = next-made k (up_to k) (made_up_to k) (up-to-made k)

  told-made : {ls : List Line} {es : List ℕ} → AnswerMade (lines ls) es → MadeBy ls es
  told-made (lines-made m) = m

  -- 02, T-06: the lines of an obstacle are those of the edges that are told beside them
  pub lines-of-edges : {ls : List Line} → obstacle_lines agent kind n vs margin horizon ≡ lines ls →
      MadeBy ls (obstacle_edges agent kind n vs margin horizon)
  unfolding obstacle_lines obstacle_edges
  lines-of-edges e = told-made (rw e at (up-to-made (edge_count kind n)))

  pub made-many : {ls : List Line} {es : List ℕ} → MadeBy ls es → length ls ≡ length es
  made-many none_made = refl
  made-many (one-made {ls} {es} {l} i m e) =
      rw (length-append ls (l ∷ []), length-append es (i ∷ [])) (ap (λ (j : ℕ). j + 1) (made-many m))
