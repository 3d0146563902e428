-- A session that was handed out over some lines stands as the rules over them do; a batch of admitted lines that fits
-- is taken, and the session then stands over these lines too; so does a start over none. Assumes nothing.
use Prim.Native.Nat.{ℕ, ◌+◌, ◌%◌, ◌≤◌}
use mathlib.Core.Path.{◌≡◌, refl, sym, ◌∙◌, ap}
use mathlib.Core.List.{List, [], ◌++◌}
use lib.ListN.{length, length-append}
use lib.Ieee.{Float}
use borrow.Author.Tests.{eq-eqb, le-leb}
use Rattle.common.specs.declared.Vec2.{Vec2}
use Rattle.lines.specs.declared.Line.{Line}
use Rattle.lines.specs.declared.Origin.{Origin}
use Rattle.lines.specs.Lines.{most_lines, lines_of}
use Rattle.lines.specs.LineFaults.{lines_fault}
use Rattle.pass_2d.specs.Pass.{Failure}
use Rattle.linear_programming.specs.Whole.{Failed, failed_line, Outcome, stands, whole_list}
use Rattle.admission.specs.Faults.{Fault, fine}
use Rattle.linear_programming.specs.Admit.{◌⟫◌, wish_fault, judged_list, list_call}
use Rattle.linear_programming.specs.Read.{phase_of, failed_of}
use Rattle.lines.proofs.JudgeLaws.{faults-append}
use Rattle.linear_programming.proofs.JudgeLaws.{⟫-stands}
use Rattle.linear_programming.proofs.WholeLaws.{failed-line-stays}
use Rattle.linear_programming.proofs.Bounds.NeverRefused.{Stood, stood, never-refused}
use Rattle.session.specs.declared.Session.{Session}
use Rattle.session.specs.Sessions.{lines_in, origins_in, outcome_in, started_by, started_as}
use Rattle.session.specs.Handed.{Handed}
use Rattle.session.proofs.HandedLaws.{fault-free, continues}
use Rattle.session.proofs.StartLaws.{begins}
use Rattle.histories.specs.Cuts.{Batch, fed_by, Admitted, arriving}

-- what is told of a session that stands was not refused
told-fine : (f : Fault) (s : Session) {o : Outcome} → Stood o → (f ⟫ outcome_in s) ≡ o → f ≡ fine
told-fine f s stood e = (⟫-stands f e).0

-- where the session stands, over which lines and origins
pub record StandsOver (s : Session) (rigid : ℕ) (wish : Vec2) (limit : Float) (lines : List Line)
    (origins : List Origin) : Type 0 where
  pub handed : Handed s
  pub lines_are : lines_in s ≡ lines
  pub origins-are : origins_in s ≡ origins
  pub rigid-is : s.rigid ≡ rigid
  pub wish-is : s.wish ≡ wish
  pub limit_is : s.limit ≡ limit

-- a session that was handed out stands over its own lines
pub over-own : {s : Session} → Handed s → StandsOver s s.rigid s.wish s.limit (lines_in s) (origins_in s)
over-own h = record { handed = h; lines_are = refl; origins-are = refl; rigid-is = refl; wish-is = refl; limit_is = refl }

-- the session stands as the whole-list rules over its lines do, and as the judged list of them does; they have no fault
module _ {s : Session} {rigid : ℕ} {wish : Vec2} {limit : Float} {lines : List Line} {origins : List Origin}
    (o : StandsOver s rigid wish limit lines origins) where
  pub stands-whole : outcome_in s ≡ whole_list rigid wish limit lines
  stands-whole = rw (← o.rigid-is, ← o.wish-is, ← o.limit_is, ← o.lines_are) (sym (fault-free s o.handed).stood)

  pub stands-judged : outcome_in s ≡ judged_list rigid wish limit lines
  stands-judged = rw (← o.rigid-is, ← o.wish-is, ← o.limit_is, ← o.lines_are) (sym o.handed.stand)

  pub wish-admitted : wish_fault wish limit ≡ fine
  wish-admitted = rw (← o.wish-is, ← o.limit_is) (fault-free s o.handed).wished

  pub lines-admitted : lines_fault lines ≡ fine
  lines-admitted = rw (← o.lines_are) (fault-free s o.handed).lined

-- ---- one batch of admitted lines that fits

module _ (s : Session) (h : Handed s) (b : Batch) (admitted : Admitted b)
    (room : length (lines_in s) + length (lines_of b.numbers) ≤ most_lines) where
  abbrev L : List Line
  L = lines_of b.numbers

  whole : judged_list s.rigid s.wish s.limit (lines_in s ++ L) ≡ whole_list s.rigid s.wish s.limit (lines_in s ++ L)
  unfolding judged_list
  whole = rw (
    length-append (lines_in s) L,
    le-leb (length (lines_in s) + length L) most_lines room,
    (fault-free s h).wished,
    faults-append,
    (fault-free s h).lined,
    admitted.lines,
  )

  never : Stood (whole_list s.rigid s.wish s.limit (lines_in s ++ L))
  never = never-refused s.rigid s.wish s.limit (lines_in s ++ L) (fault-free s h).wished
      (rw (faults-append, (fault-free s h).lined) admitted.lines)

  taken-one : (fed_by s b).judged ≡ fine
  taken-one =
      told-fine ((fed_by s b).judged) (fed_by s b).session never
      ((continues s h b.numbers b.brought).tells
      ∙ rw (eq-eqb (length b.numbers % 4) 0 admitted.four, admitted.theirs) whole)

module _ {s : Session} {rigid : ℕ} {wish : Vec2} {limit : Float} {lines : List Line} {origins : List Origin}
    (o : StandsOver s rigid wish limit lines origins)
    (b : Batch) (admitted : Admitted b) (room : length lines + length (lines_of b.numbers) ≤ most_lines) where
  pub batch-taken : (fed_by s b).judged ≡ fine
  batch-taken = taken-one s o.handed b admitted (rw o.lines_are room)

  pub batch-over : StandsOver (fed_by s b).session rigid wish limit (lines ++ lines_of b.numbers) (origins ++ arriving b)
  batch-over =
      let k = continues s o.handed b.numbers b.brought in
      record {
        handed = k.handed;
        lines_are = k.grows batch-taken ∙ rw o.lines_are;
        origins-are = k.remembers batch-taken ∙ rw o.origins-are;
        rigid-is = k.aims.0 ∙ o.rigid-is;
        wish-is = k.aims.1 ∙ o.wish-is;
        limit_is = k.aims.2 ∙ o.limit_is;
      }

  -- the failed line of a list stays that of the longer one, and so the session's
  pub failed-stays : (k : Failure) → failed_of s.failed ≡ failed_line k → failed_of (fed_by s b).session.failed ≡ failed_line k
  failed-stays k e =
      failed-line-stays rigid wish limit lines (lines_of b.numbers)
      (sym (stands-whole o) ∙ ap (λ (f : Failed). stands (phase_of s.phase) f s.probes) e)
      (sym (stands-whole batch-over))

-- ---- a start

module _ (rigid : ℕ) (wish : Vec2) (limit : Float) where
  -- the single call over whole lines is the judged list of them
  pub called : (xs : List Float) → length xs % 4 ≡ 0 → list_call rigid wish limit xs ≡ judged_list rigid wish limit (lines_of xs)
  unfolding list_call
  called xs four = rw (eq-eqb (length xs % 4) 0 four)

  start-whole : wish_fault wish limit ≡ fine → list_call rigid wish limit [] ≡ whole_list rigid wish limit []
  unfolding judged_list lines_fault lines_of
  start-whole w = called [] refl ∙ rw w

  never-none : wish_fault wish limit ≡ fine → Stood (whole_list rigid wish limit [])
  unfolding lines_fault
  never-none w = never-refused rigid wish limit [] w refl

  pub start-taken : wish_fault wish limit ≡ fine → (started_as wish limit rigid).judged ≡ fine
  start-taken w =
      told-fine _ (started_as wish limit rigid).session (never-none w) ((begins wish limit rigid).tells ∙ start-whole w)

  begun-over : {o : Outcome} → Stood o → Handed (started_by wish limit rigid o).session →
      StandsOver (started_by wish limit rigid o).session rigid wish limit [] []
  begun-over stood h = record {
    handed = h;
    lines_are = refl;
    origins-are = refl;
    rigid-is = refl;
    wish-is = refl;
    limit_is = refl;
  }

  pub start-over : wish_fault wish limit ≡ fine → StandsOver (started_as wish limit rigid).session rigid wish limit [] []
  unfolding started_as
  start-over w = begun-over {o = list_call rigid wish limit []} (rw (start-whole w) (never-none w))
      (begins wish limit rigid).handed
