-- Over admitted lines no solve is refused: at the clamp the ends are in order, and the starting point, the points and
-- the penetrations are finite. Tightened lines have points up to 2 ^ 50, so the same laws of a pass serve the inner
-- solves. Assumes nothing.
use mathlib.Core.Path.{◌≡◌}
use Prim.Native.Nat.{ℕ}
use native.Mathlib.Omega.{arith}
use mathlib.Core.Bool.{false}
use mathlib.Core.List.{List, foldl}
use lib.Dec.{lit≤}
use lib.Ieee.{Float, of_bits}
use Rattle.arithmetic.specs.Binary32.{◌<ᶠ◌, ◌≤ᶠ◌, 0ᶠ, halfᶠ, when◌then◌else◌}
use Rattle.arithmetic.specs.Ends.{abs_of}
use Rattle.arithmetic.proofs.Choice.{if-all, if-case}
use Rattle.arithmetic.proofs.Lists.{All, all_snoc, all_take, all_drop, all_map, none, more}
use Rattle.arithmetic.proofs.Magnitude.Size.{Within, within-finite, within}
use Rattle.arithmetic.proofs.Magnitude.Operations.{div-within}
use Rattle.arithmetic.proofs.Magnitude.Comparisons.{not-le-apart}
use Rattle.common.specs.declared.Vec2.{Vec2}
use Rattle.common.specs.Vectors.{dot_of, perp_of, determinant_of}
use Rattle.common.proofs.VectorSizes.{Inside, roomier, inside-finite, add-inside, sub-inside, mul-inside, perp-inside, determinant-within}
use Rattle.lines.specs.declared.Line.{Line}
use Rattle.lines.specs.Lines.{epsilon}
use Rattle.lines.specs.LineFaults.{lines_fault}
use Rattle.one_line.specs.OneLine.{toward, along}
use Rattle.pass_2d.specs.Pass.{Pass, finite_point, pass}
use Rattle.relaxation.specs.Relax.{Tight, kept, skipped, tight_at, midpoint, intersection, tighten, behind, tighten_next, tightened, Relaxed, relaxed, depth_in, replaced, relax_line}
use Rattle.linear_programming.specs.Whole.{Phase, Failed, Outcome, stands, relaxed_outcome, after_pass, whole_list}
use Rattle.admission.specs.Faults.{fine}
use Rattle.linear_programming.specs.Admit.{wish_fault}
use Rattle.pass_2d.proofs.WalkLaws.{walk-keeps-over}
use Rattle.linear_programming.proofs.Bounds.SolveSizes.{LineIn, epsilon-over, Goes, start-inside, along-inside, on_line, pass-goes, aimed, pointed, goes, ends}
use Rattle.linear_programming.proofs.Bounds.Admitted.{Admitted, wish-admitted, lines-admitted}
use Rattle.linear_programming.proofs.Bounds.TightDirections.{not-parallel, not-one-way}

half-within : Within 148 halfᶠ
unfolding of_bits
half-within = within (lit≤ tt)

-- ---- tightened lines: points up to 2 ^ 50

farther : (l : Line) → Admitted l → LineIn 199 l
farther l h = record { point-in = roomier (omega arith) h.line-in.point-in; direction-in = h.line-in.direction-in }

-- a line of that size, or none
data TightIn : Tight → Type 0 where
  kept_in : {l : Line} → LineIn 199 l → TightIn (kept l)
  skipped-in : TightIn skipped

behind-in : {made : List Line} {t : Tight} → All (LineIn 199) made → TightIn t → All (LineIn 199) (behind made t)
behind-in h (kept_in l) = all_snoc h l
behind-in h skipped-in = h

module _ (own prev : Line) (O : Admitted own) (P : Admitted prev) where
  abbrev det : Float
  det = determinant_of own.direction prev.direction

  midpoint-in : Inside 199 (midpoint own prev)
  unfolding midpoint
  midpoint-in = mul-inside 199 (add-inside 178 O.line-in.point-in P.line-in.point-in (omega arith)) half-within
      (omega arith)

  intersection-in : (abs_of det ≤ᶠ epsilon) ≡ false → Inside 199 (intersection own prev)
  unfolding intersection
  intersection-in t =
      let d : Within 152 det = determinant-within 152 O.line-in.direction-in P.line-in.direction-in (omega arith) in
      let m = determinant-within 180 P.line-in.direction-in
      (sub-inside 178 O.line-in.point-in P.line-in.point-in (omega arith)) (omega arith) in
      on_line 177 (omega arith) own O.line-in (div-within 197 m (not-le-apart det (within-finite d) epsilon-over t)
      (omega arith))

  tighten-in : TightIn (tighten own prev)
  unfolding tighten tight_at
  tighten-in =
      if-case TightIn (abs_of det ≤ᶠ epsilon)
      (λ t. if-case TightIn (0ᶠ <ᶠ dot_of own.direction prev.direction) (λ u. skipped-in)
      (λ u. kept_in (record { point-in = midpoint-in; direction-in = not-one-way own prev O P u })))
      (λ t. kept_in (record { point-in = intersection-in t; direction-in = not-parallel own prev O P t }))

fold-in : (own : Line) → Admitted own → {made l : List Line} → All (LineIn 199) made → All Admitted l →
    All (LineIn 199) (foldl (tighten_next own) made l)
unfolding tighten_next
fold-in own O {made = made} h none = h
fold-in own O {made = made} h (more {x} p ps) = fold-in own O {made = behind made (tighten own x)} (behind-in h (tighten-in own x O p)) ps

tightened-in : (rigid : ℕ) (own : Line) {e : List Line} → Admitted own → All Admitted e → All (LineIn 199) (tightened rigid own e)
unfolding tightened
tightened-in rigid own O E = fold-in own O (all_map farther (all_take rigid E)) (all_drop rigid E)

-- ---- relaxation

-- it goes on
data Relaxes : Relaxed → Type 0 where
  relaxes : {p : Vec2} {depth : Float} {n : ℕ} → Relaxes (relaxed p depth n)

replaced-relaxes : (own : Line) (p : Vec2) (depth : Float) (n : ℕ) → Admitted own → {s : Pass} → Goes 221 s →
    Relaxes (replaced own p depth n s)
unfolding replaced finite_point depth_in when◌then◌else◌
replaced-relaxes own p depth n O ends = relaxes
replaced-relaxes own p depth n O (goes {q} h) =
    let d = determinant-within 224 O.line-in.direction-in (sub-inside 222 O.line-in.point-in h (omega arith))
    (omega arith) in
    rw (inside-finite h, within-finite d) relaxes

-- the whole list stands: no refusal
pub data Stood : Outcome → Type 0 where
  stood : {ph : Phase} {f : Failed} {n : ℕ} → Stood (stands ph f n)

relaxed-stood : (f : Failed) {s : Relaxed} → Relaxes s → Stood (relaxed_outcome f s)
relaxed-stood f relaxes = stood

module _ (rigid : ℕ) (limit : Float) (L : Within 159 limit) where
  inner-goes : (own : Line) {e : List Line} → Admitted own → All Admitted e →
      Goes 221 (pass (along (perp_of own.direction)) limit (tightened rigid own e))
  inner-goes own O E =
      let d = perp-inside O.line-in.direction-in in
      pass-goes 199 (omega arith) (along (perp_of own.direction)) limit (pointed d) L 221 (omega arith)
      (tightened-in rigid own O E) (roomier (omega arith) (along-inside limit d L))

  line-relaxes : (e : List Line) (own : Line) (s : Relaxed) → All Admitted e → Admitted own → Relaxes s →
      Relaxes (relax_line rigid limit e own s)
  unfolding relax_line
  line-relaxes e own s E O (relaxes {p} {depth}) =
      if-all Relaxes _ relaxes (replaced-relaxes own p depth _ O (inner-goes own O E))

  -- ---- the whole list

  after-stood : {l : List Line} {k : ℕ} {s : Pass} → All Admitted l → Goes k s → Stood (after_pass rigid limit l s)
  unfolding after_pass
  after-stood h (goes g) = stood
  after-stood h (ends {f}) = if-all Stood _ stood
      (relaxed-stood _ (walk-keeps-over (relax_line rigid limit) Admitted Relaxes line-relaxes _ (all_take f.index h)
      (all_drop f.index h) relaxes))

  whole-stood : (wish : Vec2) {l : List Line} → Inside 165 wish → All Admitted l → Stood (whole_list rigid wish limit l)
  unfolding whole_list
  whole-stood wish W h =
      after-stood h (pass-goes 177 (omega arith) (toward wish) limit (aimed W) L 250 (omega arith)
      (all_map (λ l a. a.line-in) h) (start-inside limit (aimed W) L))

-- a list that is admitted with its wish and limit is never refused by the solve
pub never-refused : (rigid : ℕ) (wish : Vec2) (limit : Float) (lines : List Line) → wish_fault wish limit ≡ fine →
    lines_fault lines ≡ fine → Stood (whole_list rigid wish limit lines)
never-refused rigid wish limit lines w l =
    let a = wish-admitted wish limit w in
    whole-stood rigid limit a.1 wish a.0 (lines-admitted lines l)
