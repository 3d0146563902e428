-- Sessions that were handed out over the same lines are the same value but for origins, and the same value where these
-- are the same too; a fresh session fed admitted lines stands over them; and a line taken back leaves that very
-- session. Assumes nothing.
use Prim.Native.Nat.{ℕ, zero, suc, ◌+◌, ◌*◌, ◌≤◌, ◌<◌}
use mathlib.Core.Path.{◌≡◌, refl, sym, ◌∙◌, ap}
use mathlib.Core.Bool.{Bool, true, false, ◌||◌}
use mathlib.Core.List.{List, [], ◌∷◌, ◌++◌}
use native.Mathlib.Omega.{arith}
use Rattle.std.specs.Prelude.{Option}
use lib.Dec.{ltb, eqb}
use lib.ListN.{length, drop, take-append-drop}
use lib.Seq.{length-take-le}
use lib.Ieee.{Float}
use borrow.Author.Tests.{lt-ltb, le-leb, ltb-true, eq-eqb}
use Rattle.common.specs.declared.Vec2.{Vec2}
use Rattle.lines.specs.declared.Line.{Line}
use Rattle.lines.specs.declared.Origin.{Origin}
use Rattle.lines.specs.Lines.{most_lines, lines_of, numbers_of}
use Rattle.lines.specs.LineFaults.{line_fault, lines_fault}
use Rattle.lines.proofs.Numbers.{lines-back, numbers-long}
use Rattle.admission.specs.Faults.{fine, must}
use Rattle.admission.proofs.FaultLaws.{⊳-fine}
use Rattle.pass_2d.specs.declared.Failure.{Failure as FailureCode}
use Rattle.linear_programming.specs.declared.Phase.{Phase as PhaseCode}
use Rattle.linear_programming.specs.Admit.{wish_fault}
use Rattle.linear_programming.specs.Read.{phase_of, phase_as, failed_of, failed_as}
use Rattle.linear_programming.proofs.Agreement.{phase-back, failed-back}
use Rattle.session.specs.declared.Session.{Session}
use Rattle.session.specs.Sessions.{outcome_in, blank_lines, blank_origins, started_as}
use Rattle.session.specs.Batches.{origins_for, fitting}
use Rattle.session.specs.Handed.{Handed}
use Rattle.session.specs.Withdrawals.{refused_by, started_with, fresh_as, threes_of, without, lowered, withdrawal_fault, withdrawn_as}
use Rattle.session.proofs.WithdrawalWork.{without_fewer, origins-back, threes-long}
use Rattle.session.proofs.HandedLaws.{count-is}
use Rattle.histories.specs.Cuts.{Batch, fed_by, Admitted, arriving}
use Rattle.histories.proofs.StandLaws.{StandsOver, over-own, stands-whole, wish-admitted, lines-admitted, batch-taken, batch-over, start-taken, start-over}

-- ---- one value

module _ {s : Session} {rigid : ℕ} {wish : Vec2} {limit : Float} {lines : List Line} {origins : List Origin}
    (o : StandsOver s rigid wish limit lines origins) where
  pub count-over : s.count ≡ length lines
  count-over = sym (count-is s o.handed) ∙ ap length o.lines_are

  pub few-over : length lines ≤ most_lines
  few-over = let e = count-over in omega (arith, o.handed.fits)

  -- an origin a line
  pub origins-over : length origins ≡ length lines
  origins-over = ap length (sym o.origins-are)
      ∙ length-take-le s.count s.origins (omega (arith, o.handed.origins-size, o.handed.fits)) ∙ count-over

  lines-array : s.lines ≡ lines ++ drop (length lines) blank_lines
  lines-array =
      sym (take-append-drop s.count s.lines)
      ∙ rw (o.handed.blank, o.lines_are) (ap (λ (n : ℕ). lines ++ drop n blank_lines) count-over)

  origins-array : s.origins ≡ origins ++ drop (length lines) blank_origins
  origins-array =
      sym (take-append-drop s.count s.origins)
      ∙ rw (o.handed.blank-origins, o.origins-are) (ap (λ (n : ℕ). origins ++ drop n blank_origins) count-over)

pub phase-same : (p q : PhaseCode) → phase_of p ≡ phase_of q → p ≡ q
phase-same p q e = sym (phase-back p) ∙ ap phase_as e ∙ phase-back q

pub failed-same : (f g : Option FailureCode) → failed_of f ≡ failed_of g → f ≡ g
failed-same f g e = sym (failed-back f) ∙ ap failed_as e ∙ failed-back g

-- a session by its fields
abbrev made : List Line → List Origin → ℕ → ℕ → Vec2 → Float → PhaseCode → Option FailureCode → ℕ → Session
made lines origins count rigid wish limit phase failed probes =
    record {
      lines = lines;
      origins = origins;
      count = count;
      rigid = rigid;
      wish = wish;
      limit = limit;
      phase = phase;
      failed = failed;
      probes = probes;
    }

-- over the same lines, whatever their origins
pub same-but-origins : {s t : Session} {rigid : ℕ} {wish : Vec2} {limit : Float} {lines : List Line} {os ps : List Origin} →
    StandsOver s rigid wish limit lines os → StandsOver t rigid wish limit lines ps → {l : List Origin} → l ≡ t.origins →
    made s.lines l s.count s.rigid s.wish s.limit s.phase s.failed s.probes ≡ t
same-but-origins {s} {t} o p {l} origins =
    let e : outcome_in s ≡ outcome_in t = stands-whole o ∙ sym (stands-whole p) in
    let arrays : s.lines ≡ t.lines = lines-array o ∙ sym (lines-array p) in
    let counts : s.count ≡ t.count = count-over o ∙ sym (count-over p) in
    let rigids : s.rigid ≡ t.rigid = o.rigid-is ∙ sym p.rigid-is in
    let wishes : s.wish ≡ t.wish = o.wish-is ∙ sym p.wish-is in
    let limits : s.limit ≡ t.limit = o.limit_is ∙ sym p.limit_is in
    let phases : s.phase ≡ t.phase = phase-same s.phase t.phase (cc) in
    let fails : s.failed ≡ t.failed = failed-same s.failed t.failed (cc) in
    let totals : s.probes ≡ t.probes = cc in
    λ i. made (arrays i) (origins i) (counts i) (rigids i) (wishes i) (limits i) (phases i) (fails i) (totals i)

pub same-session : {s t : Session} {rigid : ℕ} {wish : Vec2} {limit : Float} {lines : List Line} {origins : List Origin} →
    StandsOver s rigid wish limit lines origins → StandsOver t rigid wish limit lines origins → s ≡ t
same-session o p = same-but-origins o p (origins-array o ∙ sym (origins-array p))

-- ---- a fresh session

-- taken, and over its lines and origins
pub record FreshRight (wish : Vec2) (limit : Float) (rigid : ℕ) (lines : List Line) (origins : List Origin) : Type 0 where
  pub taken : (fresh_as wish limit rigid lines origins).judged ≡ fine
  pub over : StandsOver (fresh_as wish limit rigid lines origins).session rigid wish limit lines origins

-- numbers of origins are these origins again
brought-back : (n : ℕ) (os : List Origin) → length os ≡ n → origins_for n (threes_of os) ≡ os
unfolding origins_for threes_of
brought-back n [] e = let k : n ≡ 0 = omega arith in rw k refl
brought-back n (o ∷ os) e = origins-back (o ∷ os)

or-true : (b : Bool) → (b || true) ≡ true
or-true true = refl
or-true false = refl

fitting-threes : (n : ℕ) (os : List Origin) → length os ≡ n → fitting (length (threes_of os)) n ≡ true
unfolding fitting
fitting-threes n os e =
    rw (eq-eqb (length (threes_of os)) (3 * n) (threes-long os ∙ ap (λ (k : ℕ). 3 * k) e)) (or-true (eqb (length (threes_of os)) 0))

module _ (wish : Vec2) (limit : Float) (rigid : ℕ) (lines : List Line) (origins : List Origin) (w : wish_fault wish limit
    ≡ fine) (l : lines_fault lines ≡ fine)
    (few : length lines ≤ most_lines) (each : length origins ≡ length lines) where
  abbrev given : Batch
  given = record { numbers = numbers_of lines; brought = threes_of origins }

  given-admitted : Admitted given
  given-admitted = record {
    four = omega (arith, numbers-long lines);
    theirs = rw (lines-back lines, fitting-threes (length lines) origins each) refl;
    lines = rw (lines-back lines) l;
  }

  room : 0 + length (lines_of (numbers_of lines)) ≤ most_lines
  room = rw (lines-back lines) (omega arith)

  fresh-fed : fresh_as wish limit rigid lines origins ≡ fed_by (started_as wish limit rigid).session given
  unfolding started_with
  fresh-fed = rw (start-taken rigid wish limit w)

  arrives : arriving given ≡ origins
  arrives = rw (lines-back lines) (brought-back (length lines) origins each)

  pub fresh-right : FreshRight wish limit rigid lines origins
  fresh-right =
      let o = start-over rigid wish limit w in
      record {
        taken = rw fresh-fed (batch-taken o given given-admitted room);
        over = rw fresh-fed (rw (arrives, lines-back lines) at (batch-over o given given-admitted room));
      }

-- any session that was handed out is the fresh one over its lines
pub over-fresh : {s : Session} {rigid : ℕ} {wish : Vec2} {limit : Float} {lines : List Line} {origins : List Origin} →
    StandsOver s rigid wish limit lines origins →
    (other : ℕ) → FreshRight wish limit other lines origins
over-fresh {wish = wish} {limit} {lines} {origins} o other =
    fresh-right wish limit other lines origins (wish-admitted o) (lines-admitted o) (few-over o) (origins-over o)

-- ---- a line taken back

pub without-admitted : (i : ℕ) (ls : List Line) → lines_fault ls ≡ fine → lines_fault (without i ls) ≡ fine
unfolding lines_fault without
without-admitted i [] e = refl
without-admitted zero (l ∷ ls) e = (⊳-fine (line_fault l) e).1
without-admitted (suc i) (l ∷ ls) e =
    let k = ⊳-fine (line_fault l) e in
    rw k.0 (without-admitted i ls k.1)

module _ {s : Session} {rigid : ℕ} {wish : Vec2} {limit : Float} {lines : List Line} {origins : List Origin}
    (o : StandsOver s rigid wish limit lines origins)
    (i : ℕ) (below : i < length lines) where
  no-fault-yet : withdrawal_fault s.count i ≡ fine
  unfolding withdrawal_fault
  no-fault-yet =
      let e = count-over o in
      rw (le-leb s.count most_lines o.handed.fits, lt-ltb i s.count (omega arith))

  left-right : FreshRight wish limit (lowered i rigid) (without i lines) (without i origins)
  left-right =
      let n = without_fewer i lines below in
      let m = without_fewer i origins (rw (origins-over o) below) in
      fresh-right wish limit (lowered i rigid) (without i lines) (without i origins) (wish-admitted o)
      (without-admitted i lines (lines-admitted o))
      (omega (arith, few-over o)) (omega (arith, origins-over o))

  -- the answer is the fresh session's, over the lines that are left
  pub withdrawn-fresh : withdrawn_as s i ≡ fresh_as wish limit (lowered i rigid) (without i lines) (without i origins)
  unfolding withdrawn_as
  withdrawn-fresh = rw (no-fault-yet, o.wish-is, o.limit_is, o.rigid-is, o.lines_are, o.origins-are, left-right.taken)

  pub withdrawn-taken : (withdrawn_as s i).judged ≡ fine
  withdrawn-taken = rw withdrawn-fresh left-right.taken

  pub withdrawn-over : StandsOver (withdrawn_as s i).session (lowered i rigid) wish limit (without i lines) (without i origins)
  withdrawn-over = rw withdrawn-fresh left-right.over

-- an index behind the lines
pub withdrawn-behind : (s : Session) → Handed s → (i : ℕ) → ltb i s.count ≡ false → withdrawn_as s i ≡ refused_by s 15
unfolding withdrawn_as withdrawal_fault
withdrawn-behind s h i e = rw (le-leb s.count most_lines h.fits, e)

-- a session that was handed out refuses only an index that is not below its count, and hands one out again
pub withdrawn-told : (s : Session) → Handed s → (i : ℕ) → (withdrawn_as s i).judged ≡ must (ltb i s.count) 15
withdrawn-told s h i = go (ltb i s.count) refl
  where
    go : (b : Bool) → ltb i s.count ≡ b → (withdrawn_as s i).judged ≡ must (ltb i s.count) 15
    go true e = rw e (withdrawn-taken (over-own h) i (omega (arith, count-is s h, ltb-true i s.count e)))
    go false e = rw (withdrawn-behind s h i e, e)

pub withdrawn-handed : (s : Session) → Handed s → (i : ℕ) → Handed (withdrawn_as s i).session
withdrawn-handed s h i = go (ltb i s.count) refl
  where
    go : (b : Bool) → ltb i s.count ≡ b → Handed (withdrawn_as s i).session
    go true e = (withdrawn-over (over-own h) i (omega (arith, count-is s h, ltb-true i s.count e))).handed
    go false e = rw (withdrawn-behind s h i e) h
