-- What computing by the rules opens, and whole numbers as f32. Assumes nothing.
use Prim.Native.Nat.{ℕ}
use lib.IntN.{pos}
use lib.Ieee.{Float, binary32, of_int, neg}
use Rattle.lines.proofs.Computed.{computed as numbers}
use Rattle.one_line.specs.OneLine.{chord, unless_fails, cut, narrow, point_on, choose, one_line}
use Rattle.pass_2d.specs.Pass.{start, finite_point, judged, solved, pass_line, pass}
use Rattle.relaxation.specs.Relax.{tight_at, midpoint, intersection, tighten, tighten_next, tightened, depth_in, replaced, relax_line}
use Rattle.linear_programming.specs.Whole.{after_pass, whole_list}

unfoldable pub computed : Unit {0}
unfolding numbers
    chord unless_fails cut narrow point_on choose one_line start finite_point judged solved pass_line pass
    tight_at midpoint intersection tighten tighten_next tightened depth_in replaced relax_line after_pass whole_list
computed = tt

-- whole numbers and their negatives as f32
abbrev pub + : ℕ → Float
+ n = of_int binary32 (pos n)

abbrev pub − : ℕ → Float
− n = neg (of_int binary32 (pos n))
