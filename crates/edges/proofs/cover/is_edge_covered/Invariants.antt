-- `edges::cover::is_edge_covered` meets its contract. The invariant: the lines before i cover nothing. Assumes nothing.
use mathlib.Core.Path.{◌≡◌}
use lib.ListN.{drop}
use Rattle.lines.specs.Lines.{lines_of}
use Rattle.edges.specs.Cover.{is_edge_covered}
use Rattle.edges.proofs.cover.is_edge_covered.Given as goal

abbrev pub invariant-loop-i : goal.invariant-loop-i
invariant-loop-i l = is_edge_covered l.left_vertex l.right_vertex l.horizon l.margin (lines_of l.existing_lines)
    ≡ is_edge_covered l.left_vertex l.right_vertex l.horizon l.margin (drop l.i (lines_of l.existing_lines))
