-- `lines::judge_line` meets its contract. Assumes nothing.
use Rattle.admission.proofs.FaultLaws.{told-and, ⊳-assoc}
use Rattle.lines.specs.LineFaults.{line_fault}
use Rattle.lines.proofs.judge_line.Goals as goal

pub returns : goal.returns
unfolding line_fault
returns c =
    simp (
      c.and-4.ensures,
      c.and-3.ensures,
      c.and-2.ensures,
      c.and.ensures,
      told-and,
      ← ⊳-assoc,
      ← c.unless-band.ensures,
      ← c.is_inside.ensures,
      ← c.length_squared-squared.ensures,
      ← c.unless-y.ensures,
      ← c.is_finite-2.ensures,
      ← c.unless-x.ensures,
      ← c.is_finite.ensures,
      ← c.unless-point_y.ensures,
      ← c.is_within-2.ensures,
      ← c.unless-point_x.ensures,
      ← c.is_within.ensures,
    )
