-- `arithmetic::sqrt` meets its contract. Assumes nothing.
use mathlib.Core.Path.{sym, ◌∙◌, subst}
use mathlib.Core.Bool.{Bool, not}
use lib.Dec.{T}
use lib.Ieee.{binary32, fits, div, of_bits}
use lib.Ieee.Positive.{positive}
use Rattle.arithmetic.proofs.Signs.{ne-self, is_zero, is_negative, is_positive, Positive}
use Rattle.arithmetic.proofs.Patterns.{positive-bits, worth-under}
use Rattle.arithmetic.proofs.Roots.{of_nan, of_zero, of_negative, of-infinity, is_finite, of_positive, root-not-nan}
use Rattle.arithmetic.proofs.sqrt.Goals as goal
use Rattle.arithmetic.proofs.sqrt.Goals.{Start}

-- past the three tests x is above 0, and fits
above : (c : goal.Else-x-3) → Positive c.args.x
above c = is_positive _ c.if-x.false c.if-x-2.false c.if-x-3.false

held : (c : Start) → T (fits binary32 c.args.x)
held c = subst T (sym c.well_formed.0.1) tt

-- past the fourth it is finite
finite : (c : goal.Else-b-eq2139095040) → T (positive c.args.x)
finite c = is_finite _ (above c.before) c.if-b-eq2139095040.false

pub returns-then-x : goal.returns-then-x
returns-then-x c = of_nan _ (sym (ne-self _) ∙ c.if-x.true)

pub returns-then-x-2 : goal.returns-then-x-2
returns-then-x-2 c = of_zero _ (is_zero _ c.if-x-2.true)

pub returns-then-x-3 : goal.returns-then-x-3
unfolding div of_bits
returns-then-x-3 c = of_negative _ (is_negative _ c.if-x-3.true)

pub float_to_bits-b : goal.float_to_bits-b
float_to_bits-b c = subst (λ (b : Bool). T (not b)) (sym c.if-x.false ∙ ne-self _) tt

pub returns-then-b-eq2139095040 : goal.returns-then-b-eq2139095040
returns-then-b-eq2139095040 c = of-infinity _ (held c.before.before.before.before) (above c.before) c.if-b-eq2139095040.true

pub root_bits-requires : goal.root_bits-requires
root_bits-requires c =
    let b = positive-bits _ (held c.before.before.before.before) (finite c) in
    (b.0, b.1)

pub float_from_bits-result : goal.float_from_bits-result
float_from_bits-result c = rw c.root_bits.ensures (root-not-nan _ (worth-under _ (root_bits-requires c.before).1))

pub returns : goal.returns
returns c =
    let b = positive-bits _ (held c.before.before.before.before.before) (finite c.before) in
    rw (c.root_bits.ensures, b.2) (sym (of_positive _ (finite c.before)))
