use mathlib.Core.Path.{◌≡◌, refl}
use Prim.Native.Nat.{◌*◌, ◌^◌, ◌≤◌, ◌<◌}
use native.Mathlib.Omega.{arith}
use Rattle.arithmetic.proofs.Steps.{room, doubled}
use Rattle.arithmetic.proofs.root.lifted.Goals as goal

-- in the loop there is a doubling left
left : (c : goal.In-loop-digits) → 1 ≤ c.loop-digits.shift
left c = room c.loop-digits.digits c.loop-digits.shift c.args.b
    c.requires.0 c.loop-digits.invariant.2 c.loop-digits-test.true

pub loop-digits-init : goal.loop-digits-init
loop-digits-init c = (omega arith, omega arith, refl)

pub overflow_mul-digits : goal.overflow_mul-digits
overflow_mul-digits c = omega arith

pub overflow_sub-shift : goal.overflow_sub-shift
overflow_sub-shift c = left c

pub loop-digits-smaller : goal.loop-digits-smaller
loop-digits-smaller c = omega (arith, left c)

pub loop-digits-preserved : goal.loop-digits-preserved
loop-digits-preserved c = (
  omega arith,
  omega arith,
  doubled c.loop-digits.digits c.loop-digits.shift
      (c.args.b * 2 ^ 23) (left c) c.loop-digits.invariant.2,
)

pub returns : goal.returns
returns c = record { least = omega arith; most = omega arith; shift = omega arith; value = c.loop-digits.invariant.2 }
