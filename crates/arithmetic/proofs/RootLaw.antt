-- The law of the square root. For a positive finite `f32` x, `sqrt_of x` is a positive `f32` between whose two midpoints
-- the root of x lies (`sqrt-law`), and no other `f32` is (`sqrt-unique`). That leaves no choice at a tie, since the
-- root of an `f32` is never a midpoint (`no_tie`). That `before` and `after` are the `f32` next to a positive one is
-- `bits-order` of Patterns; the special cases are `of_nan` and what follows it in Roots. Assumes nothing.
use mathlib.Core.Path.{◌≡◌, sym, ap, ◌∙◌}
use mathlib.Core.Logic.{◌⊎◌, inl, inr}
use Prim.Native.Nat.{ℕ, zero, suc, ◌+◌, ◌-◌, ◌*◌, ◌/◌, ◌%◌, ◌^◌, ◌<◌, ◌≤◌}
use native.Mathlib.Nat.{le_trans, le_of_lt, lt_irrefl, lt_of_not-le, lt_of_lt_of_le, lt_of_le_of_lt, le_of_suc-le-suc, eq-or-lt_of_le, zero-lt-suc, mul-pos, mul_comm, mul_assoc, mul_left_comm, mul-le-mul_left, mul-le-mul_right, mul-mul-mul_comm, le-mul_of_pos_right, eq_of_mul-eq-mul_right, pow-suc, pow-succ', add-sub_cancel}
use native.Mathlib.Numerals.{add-one-le}
use native.Mathlib.Omega.{arith}
use lib.Dec.{T, lit<}
use lib.Pow.{pow-add, pow_pos}
use lib.Ieee.{Float, binary32, fits, of_bits, to_bits}
use lib.Ieee.Bits.{of_bits-to_bits, to_bits-of_bits, of_bits-fits}
use lib.Ieee.Positive.{positive, positive_of_value}
use Rattle.arithmetic.specs.Root.{count, worth, root_bits, sqrt_of, before, after, IsRoot}
use Rattle.arithmetic.proofs.Patterns.{worth-mono, bits-value, count_bits, count_under, positive-bits}
use Rattle.arithmetic.proofs.RootBits.{mid, mid-mono, AtRoot, root_bits-at, one-root}
use Rattle.arithmetic.proofs.Rounded.{mid-above}
use Rattle.arithmetic.proofs.Roots.{of_positive, root-range, not-nan}

-- ---- the counts about a pattern

module _ (r : ℕ) (h : r < 2139095039) where
  here : r < 2139095040
  here = omega arith

  written : to_bits binary32 (of_bits binary32 r) ≡ r
  written = to_bits-of_bits binary32 r (omega arith) (not-nan (of_bits binary32 r) (worth r) (bits-value r here))

  count-here : count (of_bits binary32 r) ≡ worth r
  count-here = count_bits r here

  count-before : count (before (of_bits binary32 r)) ≡ worth (r - 1)
  unfolding before
  count-before = rw written (count_bits (r - 1) (omega arith))

  count-after : count (after (of_bits binary32 r)) ≡ worth (r + 1)
  unfolding after
  count-after = rw written (count_bits (r + 1) (omega arith))

mid-next : (r : ℕ) → mid (r + 1) ≡ worth r + worth (r + 1)
unfolding mid
mid-next r = rw (add-sub_cancel r 1)

-- ---- the law

no_room : (v : ℕ) → 0 < v → v < 1 → ⊥
no_room v p h = omega arith

root-above : (n r : ℕ) → 0 < n → AtRoot n r → 0 < r
unfolding mid worth
root-above n zero p a = absurd (no_room (4 * n * 2 ^ 149) (mul-pos (mul-pos (lit< tt) p) (pow_pos 149)) a.high)
root-above n (suc r) p a = zero-lt-suc r

worth-pos : (r : ℕ) → 0 < r → 0 < worth r
unfolding worth
worth-pos r h = lt_of_lt_of_le (lit< tt) (worth-mono 1 r h)

count-pos : (x : Float) → T (fits binary32 x) → T (positive x) → 0 < count x
count-pos x f p =
    let b = positive-bits x f p in
    rw b.2 at (worth-pos (to_bits binary32 x) b.0)

pub sqrt-law : (x : Float) → T (fits binary32 x) → T (positive x) → IsRoot x (sqrt_of x)
unfolding mid
sqrt-law x f p =
    let n = count x in
    let r = root_bits n in
    let a = root_bits-at n (count_under x f p) in
    let l : r < 2139095039 = root-range n r (count_under x f p) a.low in
    rw (of_positive x p) (record {
      above_zero = positive_of_value (of_bits binary32 r) (worth r) (2 ^ 149) (bits-value r (here r l))
          (worth-pos r (root-above n r (count-pos x f p) a));
      low = rw (count-before r l, count-here r l) a.low;
      high = rw (count-after r l, count-here r l, ← mid-next r) (le_of_lt a.high);
    })

pub sqrt-fits : (x : Float) → T (positive x) → T (fits binary32 (sqrt_of x))
sqrt-fits x p = rw (of_positive x p) (of_bits-fits binary32 (root_bits (count x)))

-- ---- no tie: the root of a number of 24 binary digits has not 25

-- an odd number and a smaller one differ, whatever zeros follow
odd-apart : (o d a c : ℕ) → o % 2 ≡ 1 → d < o → o * 2 ^ a ≡ d * 2 ^ c → ⊥
odd-apart o d zero zero h l e = omega arith
odd-apart o d zero (suc c) h l e =
    let q : d * 2 ^ suc c ≡ 2 * (d * 2 ^ c) = ap (λ (x : ℕ). d * x) (pow-succ' 2 c) ∙ mul_left_comm d 2 (2 ^ c) in
    omega arith
odd-apart o d (suc a) zero h l e =
    let q : o ≤ o * 2 ^ suc a = le-mul_of_pos_right o (pow_pos (suc a)) in
    omega arith
odd-apart o d (suc a) (suc c) h l e =
    odd-apart o d a c h l
    (eq_of_mul-eq-mul_right 2 (lit< tt) (o * 2 ^ a) (d * 2 ^ c)
    (mul_assoc o (2 ^ a) 2 ∙ ap (λ (x : ℕ). o * x) (sym (pow-suc 2 a)) ∙ e ∙ ap (λ (x : ℕ). d * x) (pow-suc 2 c)
    ∙ sym (mul_assoc d (2 ^ c) 2)))

-- four times d units that have doubled k times
four-units : (d k : ℕ) → 4 * (d * 2 ^ k) * 2 ^ 149 ≡ d * 2 ^ (k + 151)
four-units d k =
    ap (λ (x : ℕ). x * 2 ^ 149) (mul_comm 4 (d * 2 ^ k))
    ∙ mul_assoc (d * 2 ^ k) 4 (2 ^ 149)
    ∙ mul_assoc d (2 ^ k) (2 ^ 151)
    ∙ ap (λ (x : ℕ). d * x) (sym (pow-add 2 k 151))

no_tie : (b r : ℕ) → 8388608 ≤ r → 4 * worth b * 2 ^ 149 ≡ mid (r + 1) * mid (r + 1) → ⊥
unfolding worth
no_tie b r h e =
    let g = r / 8388608 - 1 in
    let m = r - g * 8388608 in
    let s : r ≡ g * 8388608 + m = omega arith in
    let t : mid (r + 1) ≡ (m + (m + 1)) * 2 ^ g = ap (λ (x : ℕ). mid (x + 1)) s ∙ mid-above g m (omega arith) (omega arith) in
    let k = b / 8388608 - 1 in
    let d = b - k * 8388608 in
    let o = (m + (m + 1)) * (m + (m + 1)) in
    odd-apart o d (g + g) (k + 151) (omega arith) (omega arith)
    (ap (λ (x : ℕ). o * x) (pow-add 2 g g) ∙ sym (mul-mul-mul_comm (m + (m + 1)) (2 ^ g) (m + (m + 1)) (2 ^ g))
    ∙ sym (ap (λ (x : ℕ). x * x) t) ∙ sym e ∙ four-units d k)

-- ---- no other

-- a pattern whose upper midpoint reaches the root has a leading digit
leading : (n r : ℕ) → 0 < n → 4 * n * 2 ^ 149 ≤ mid (r + 1) * mid (r + 1) → 8388608 ≤ r
unfolding mid worth
leading n r p h = le_of_suc-le-suc (lt_of_not-le (λ (g : suc r ≤ 8388608). small g))
  where
    few : 4 * 1 * 2 ^ 149 ≤ 4 * n * 2 ^ 149
    few = mul-le-mul_right (2 ^ 149) (mul-le-mul_left 4 p)

    small : suc r ≤ 8388608 → ⊥
    small g = lt_irrefl (4 * 1 * 2 ^ 149)
        (lt_of_le_of_lt (le_trans few (le_trans h (mid-mono (r + 1) 8388608 (add-one-le g)))) (lit< tt))

module _ (x r : Float) (fx : T (fits binary32 x)) (px : T (positive x)) (fr : T (fits binary32 r)) (i : IsRoot x r) where
  read_back : of_bits binary32 (to_bits binary32 r) ≡ r
  read_back = of_bits-to_bits binary32 r fr

  low-is : mid (to_bits binary32 r) * mid (to_bits binary32 r) ≤ 4 * count x * 2 ^ 149
  unfolding mid before
  low-is =
      let b = positive-bits r fr i.above_zero in
      rw (← count_bits (to_bits binary32 r - 1) (omega arith), b.2) i.low

  in-range : to_bits binary32 r < 2139095039
  in-range = root-range (count x) (to_bits binary32 r) (count_under x fx px) low-is

  high_is : 4 * count x * 2 ^ 149 ≤ mid (to_bits binary32 r + 1) * mid (to_bits binary32 r + 1)
  unfolding after
  high_is =
      let b = positive-bits r fr i.above_zero in
      rw (mid-next (to_bits binary32 r), ← count_bits (to_bits binary32 r + 1) (omega (arith, in-range)), b.2) i.high

  at-root : AtRoot (count x) (to_bits binary32 r)
  at-root = record { low = low-is; high = strictly (eq-or-lt_of_le high_is) }
    where
      strictly : (4 * count x * 2 ^ 149 ≡ mid (to_bits binary32 r + 1) * mid (to_bits binary32 r + 1))
          ⊎ (4 * count x * 2 ^ 149 < mid (to_bits binary32 r + 1) * mid (to_bits binary32 r + 1))
          → 4 * count x * 2 ^ 149 < mid (to_bits binary32 r + 1) * mid (to_bits binary32 r + 1)
      strictly (inr l) = l
      strictly (inl e) =
          absurd (no_tie (to_bits binary32 x) (to_bits binary32 r)
          (leading (count x) (to_bits binary32 r) (count-pos x fx px) high_is)
          (ap (λ (n : ℕ). 4 * n * 2 ^ 149) (positive-bits x fx px).2 ∙ e))

  pub sqrt-unique : r ≡ sqrt_of x
  sqrt-unique =
      sym read_back
      ∙ ap (λ (b : ℕ). of_bits binary32 b) (one-root (count x) (to_bits binary32 r) (root_bits (count x)) at-root
      (root_bits-at (count x) (count_under x fx px)))
      ∙ sym (of_positive x px)
