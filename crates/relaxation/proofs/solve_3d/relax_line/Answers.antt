-- `relaxation::solve_3d::relax_line` meets its contract. Assumes nothing.
use Prim.Native.Nat.{◌*◌, ◌≤◌}
use mathlib.Core.Path.{◌∙◌}
use native.Mathlib.Omega.{arith}
use lib.ListN.{take, length-take}
use lib.Seq.{length-take-le}
use Rattle.std.specs.Prelude.{Ok}
use Rattle.std.proofs.lemmas.Result.{err_from_is_err_and}
use Rattle.arithmetic.specs.Binary32.{when◌then◌else◌}
use Rattle.lines.specs.Lines.{lines_of, most_lines}
use Rattle.lines.proofs.Rows.{lines_fit, lines-take}
use Rattle.lines.proofs.Fold.{taken-most}
use Rattle.pass_2d.proofs.CallLaws.{few-called}
use Rattle.relaxation.specs.Relax.{replaced, relax_line}
use Rattle.relaxation.proofs.RelaxedProbes.{inner-solve-most}
use Rattle.relaxation.proofs.TightLaws.{lesser-rigid, examined}
use Rattle.relaxation.proofs.solve_3d.relax_line.Goals as goal

pub returns-then-depth_in-relaxed : goal.returns-then-depth_in-relaxed
unfolding relax_line when◌then◌else◌
returns-then-depth_in-relaxed c = simp (c.if-depth_in-relaxed.true, ← c.depth_in.ensures, ← c.line_at-constraint.ensures)

pub returns-in_err-inner : goal.returns-in_err-inner
unfolding relax_line replaced when◌then◌else◌
returns-in_err-inner c =
    let a = c.args in
    let p = err_from_is_err_and c.from_residual.result c.from_residual.ensures.1 in
    let short = length-take-le a.index (lines_of a.lines.now) (lines_fit a.lines.now a.index (omega arith)) in
    let tight = rw (lines-take a.lines.now a.index) at c.tighten_into-count.ensures.2 in
    let list = tight ∙ lesser-rigid _ _ _ short c.min-copied.ensures in
    let long = length-take-le (4 * a.index) a.lines.now (omega arith) in
    let few : c.tighten_into-count.result ≤ most_lines = let k = c.tighten_into-count.ensures.0 in omega arith in
    simp (
      p.1,
      p.2,
      ← list,
      ← c.perp.ensures,
      c.if-depth_in-relaxed.false,
      ← c.depth_in.ensures,
      ← c.line_at-constraint.ensures,
      ← (c.in_err-inner.ensures ∙ few-called _ _ _ (taken-most _ _ few)),
    )

pub after_inner-requires : goal.after_inner-requires
after_inner-requires c =
    let k = c.tighten_into-count.ensures.0 in
    let long = length-take-le (4 * c.args.index) c.args.lines.now (omega arith) in
    let few : c.tighten_into-count.result ≤ most_lines = omega arith in
    let inner = c.in_ok-inner in (
      omega arith,
      inner-solve-most _ _ _ (Ok inner.inner) (simp length-take (omega (arith, k, long)))
          (inner.ensures ∙ few-called _ _ _ (taken-most _ _ few)),
    )

pub returns : goal.returns
unfolding relax_line when◌then◌else◌
returns c =
    let a = c.args in
    let short = length-take-le a.index (lines_of a.lines.now) (lines_fit a.lines.now a.index (omega arith)) in
    let tight = rw (lines-take a.lines.now a.index) at c.tighten_into-count.ensures.2 in
    let list = tight ∙ lesser-rigid _ _ _ short c.min-copied.ensures in
    let long = length-take-le (4 * a.index) a.lines.now (omega arith) in
    let few : c.tighten_into-count.result ≤ most_lines = let k = c.tighten_into-count.ensures.0 in omega arith in
    simp (
      ← examined a.rigid (take a.index (lines_of a.lines.now)) short c.min-copied.ensures,
      ← list,
      ← c.perp.ensures,
      c.if-depth_in-relaxed.false,
      ← c.depth_in.ensures,
      ← c.line_at-constraint.ensures,
      ← (c.in_ok-inner.ensures ∙ few-called _ _ _ (taken-most _ _ few)),
      ← c.after_inner.ensures,
    )
