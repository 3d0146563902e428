-- Two answers that one promise allows are the same: what they say can be turned back. Assumes nothing.
use mathlib.Core.Path.{◌≡◌, refl}
use Rattle.std.specs.Prelude.{Option, Some, None}
use Rattle.arithmetic.proofs.Agree.{agree-read}
use Rattle.lines.specs.declared.Line.{Line}
use Rattle.edges.specs.Edges.{EdgeLine}
use Rattle.edges.specs.Read.{edge_line_of, edge_line_as}

edge-line-back : (a : Option Line) → edge_line_as (edge_line_of a) ≡ a
edge-line-back (Some l) = refl
edge-line-back None = refl

pub edge-lines-agree : {one other : Option Line} {promised : EdgeLine} → edge_line_of one ≡ promised →
    edge_line_of other ≡ promised → one ≡ other
edge-lines-agree = agree-read edge_line_of edge_line_as edge-line-back
