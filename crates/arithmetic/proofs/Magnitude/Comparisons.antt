-- What a comparison says of sizes, and sizes of a comparison. Each proof turns the test of `lib.Ieee` into one of two
-- products of whole numbers. Assumes nothing.
use mathlib.Core.Path.{◌≡◌, refl, sym, ◌∙◌}
use mathlib.Core.Logic.{◌⊎◌, inl, inr}
use Prim.Native.Nat.{ℕ, zero, suc, ◌*◌, ◌%◌, ◌^◌, ◌≤◌, ◌<◌, zero-le}
use native.Mathlib.Nat.{le_trans, le_of_eq, lt_of_lt_of_le, zero-mul, mul-le-mul_right, le_of_mul-le-mul_right, mul-pos, le_refl, mul_right_comm, le_of_lt, lt_of_le_of_lt, mul-lt-mul_of_pos_right, zero-lt-suc, mul-le-mul, mul-one, eq-or-lt_of_le, lt_of_mul-lt-mul_right}
use native.Mathlib.Omega.{arith}
use mathlib.Core.Bool.{Bool, true, false, false≢true, ◌&&◌, ◌||◌, true≢false}
use lib.Dec.{T, ltb, eqb, leb, leb→le}
use lib.IntN.{ℤ}
use lib.Pow.{pow_pos, pow_mono, pow-lt}
use lib.Ieee.{Float, of_bits, nan, inf, fin, binary32, up, down, lt, le, fits}
use lib.Ieee.Fits.{down_pos, up_pos, and_l, and_r}
use lib.Ieee.Positive.{first_pos}
use borrow.Author.Tests.{ltb-true, lt-ltb, eq-eqb, ne_eqb, le-ltb, eqb-true}
use Rattle.arithmetic.specs.Binary32.{◌<ᶠ◌, ◌≤ᶠ◌, 0ᶠ, finite}
use Rattle.arithmetic.specs.Ends.{abs_of}
use Rattle.arithmetic.proofs.Choice.{and_left, or_cases, neither-or, one-or}
use Rattle.arithmetic.proofs.Magnitude.Size.{Within, Apart, Over, NonNeg, within-or-apart, within, over, infinite, plain, boundless}

-- ---- the test of `lib.Ieee` between two that are not negative, as one of whole numbers

pub le-numbers : (a b : ℕ) → (ltb a b || (eqb a b && true)) ≡ true → a ≤ b
le-numbers a b h = go (or_cases (ltb a b) (eqb a b && true) h)
  where
    go : (ltb a b ≡ true) ⊎ ((eqb a b && true) ≡ true) → a ≤ b
    go (inl p) = le_of_lt (ltb-true a b p)
    go (inr p) = le_of_eq (eqb-true a b (and_left (eqb a b) true p))

pub numbers-le : (a b : ℕ) (c : Bool) → a ≤ b → c ≡ true → (ltb a b || (eqb a b && c)) ≡ true
numbers-le a b c h C = one-or (ltb a b) (eqb a b && c) (go (eq-or-lt_of_le h))
  where
    go : (a ≡ b) ⊎ (a < b) → (ltb a b ≡ true) ⊎ ((eqb a b && c) ≡ true)
    go (inl p) = inr (rw (eq-eqb a b p) C)
    go (inr p) = inl (lt-ltb a b p)

numbers-gt : (a b : ℕ) (c : Bool) → b < a → (ltb a b || (eqb a b && c)) ≡ false
numbers-gt a b c h = neither-or (ltb a b) (eqb a b && c) (le-ltb a b (le_of_lt h)) (rw (ne_eqb a b (omega arith)) refl)

-- ---- x / de against y / dd, each against p or q units; a unit is a smallest value

-- y is at most p units, x at most y
under : (x y de dd p : ℕ) → 0 < dd → x * dd ≤ y * de → y * 2 ^ 149 ≤ p * dd → x * 2 ^ 149 ≤ p * de
under x y de dd p D h g =
    le_of_mul-le-mul_right
    (le_trans (le_of_eq (mul_right_comm x (2 ^ 149) dd))
    (le_trans (mul-le-mul_right (2 ^ 149) h)
    (le_trans (le_of_eq (mul_right_comm y de (2 ^ 149))) (le_trans (mul-le-mul_right de g) (le_of_eq (mul_right_comm p dd de))))))
    D

-- x is at most p units, y at least q
across : (x y de dd p q : ℕ) → p ≤ q → x * 2 ^ 149 ≤ p * de → q * dd ≤ y * 2 ^ 149 → x * dd ≤ y * de
across x y de dd p q l h g =
    le_of_mul-le-mul_right
    (le_trans (le_of_eq (mul_right_comm x dd (2 ^ 149)))
    (le_trans (mul-le-mul_right dd h)
    (le_trans (mul-le-mul_right dd (mul-le-mul_right de l))
    (le_trans (le_of_eq (mul_right_comm q de dd))
    (le_trans (mul-le-mul_right de g) (le_of_eq (mul_right_comm y (2 ^ 149) de)))))))
    (pow_pos 149)

across_lt : (x y de dd p q : ℕ) → 0 < de → 0 < dd → p < q → x * 2 ^ 149 ≤ p * de → q * dd ≤ y * 2 ^ 149 → x * dd < y * de
across_lt x y de dd p q E D l h g =
    lt_of_mul-lt-mul_right (2 ^ 149)
    (lt_of_le_of_lt (le_of_eq (mul_right_comm x dd (2 ^ 149)))
    (lt_of_le_of_lt (mul-le-mul_right dd h)
    (lt_of_lt_of_le (mul-lt-mul_of_pos_right (mul-lt-mul_of_pos_right l E) D)
    (le_trans (le_of_eq (mul_right_comm q de dd))
    (le_trans (mul-le-mul_right de g) (le_of_eq (mul_right_comm y (2 ^ 149) de)))))))

-- ---- |x| ≤ y

pub le-within : (x : Float) {k : ℕ} {y : Float} → NonNeg y → Within k y → (abs_of x ≤ᶠ y) ≡ true → Within k x
unfolding le abs_of
le-within nan plain (within g) h = absurd (false≢true h)
le-within (inf s) plain (within g) h = absurd (false≢true h)
le-within (fin s m e) {k} plain (within {m = n} {e = d} g) h =
    within (under (m * up e) (n * up d) (down e) (down d) (2 ^ k) (down_pos d)
    (le-numbers (m * up e * down d) (n * up d * down e) h) g)
le-within nan {k = k} boundless x8 h = elim x8 [ ]
le-within (inf s) {k = k} boundless x8 h = elim x8 [ ]
le-within (fin s m e) {k = k} boundless x9 h = elim x9 [ ]

pub within-le : {j k : ℕ} {x y : Float} → Within j x → Over k y → j ≤ k → (abs_of x ≤ᶠ y) ≡ true
unfolding le abs_of
within-le {j} {k} (within {m} {e} h) (over {m = n} {e = d} g) l =
    numbers-le (m * up e * down d) (n * up d * down e) true (across (m * up e) (n * up d) (down e) (down d) (2 ^ j)
    (2 ^ k) (pow_mono l) h g) refl
within-le (within h) infinite l = refl

pub not-le-apart : (x : Float) {k : ℕ} {y : Float} → finite x ≡ true → Over k y → (abs_of x ≤ᶠ y) ≡ false → Apart k x
not-le-apart x {k} f o h = go (within-or-apart k x f)
  where
    go : Within k x ⊎ Apart k x → Apart k x
    go (inl w) = absurd (true≢false (sym (within-le w o (le_refl k)) ∙ h))
    go (inr a) = a

pub over-not-le : {j k : ℕ} {x y : Float} → Over k y → Within j x → j < k → (y ≤ᶠ x) ≡ false
unfolding le
over-not-le {j} {k} (over {m = n} {e = d} g) (within {s = false} {m} {e} h) l =
    numbers-gt (n * up d * down e) (m * up e * down d) true (across_lt (m * up e) (n * up d) (down e) (down d) (2 ^ j)
    (2 ^ k) (down_pos e) (down_pos d) (pow-lt l) h g)
over-not-le {j} {k} (over {m = n} {e = d} g) (within {s = true} {m} {e} h) l =
    let p = across_lt (m * up e) (n * up d) (down e) (down d) (2 ^ j) (2 ^ k) (down_pos e) (down_pos d) (pow-lt l) h g in
    rw (ne_eqb (n * up d * down e) (m * up e * down d) (omega arith)) refl
over-not-le infinite (within {s = false} h) l = refl
over-not-le infinite (within {s = true} h) l = refl

pub over-positive : {k : ℕ} {x : Float} → Over k x → (0ᶠ <ᶠ x) ≡ true
unfolding lt of_bits
over-positive {k} (over {m} {e} h) =
    lt-ltb _ _ (lt_of_le_of_lt (le_of_eq (zero-mul (down e)))
    (positive (lt_of_lt_of_le (mul-pos (pow_pos k) (down_pos e)) h)))
  where
    positive : 0 < m * up e * 2 ^ 149 → 0 < m * up e * 1
    positive p = lt_of_lt_of_le (first_pos (m * up e) (2 ^ 149) p) (le_of_eq (sym (mul-one (m * up e))))
over-positive infinite = refl

-- 0 ≤ x ≤ y
pub between-within : (x : Float) {k : ℕ} {y : Float} → NonNeg y → Within k y → (0ᶠ ≤ᶠ x) ≡ true → (x ≤ᶠ y) ≡ true → Within k x
unfolding le of_bits
between-within nan plain (within g) z h = absurd (false≢true h)
between-within (inf true) plain (within g) z h = absurd (false≢true z)
between-within (inf false) plain (within g) z h = absurd (false≢true h)
between-within (fin false m e) {k} plain (within {m = n} {e = d} g) z h =
    within (under (m * up e) (n * up d) (down e) (down d) (2 ^ k) (down_pos d)
    (le-numbers (m * up e * down d) (n * up d * down e) h) g)
between-within (fin true m e) {k} plain (within g) z h =
    within (go (eqb-true (0 * down e) (m * up e * 1) (and_left (eqb (0 * down e) (m * up e * 1))
    (eqb (0 * down e) 0) z)))
  where
    go : 0 * down e ≡ m * up e * 1 → m * up e * 2 ^ 149 ≤ 2 ^ k * down e
    go p =
        let q : m * up e ≡ 0 = omega (arith, zero-mul (down e)) in
        rw q zero-le
between-within nan {k = k} boundless x10 z h = elim x10 [ ]
between-within (inf false) {k = k} boundless x12 z h = elim x12 [ ]
between-within (inf true) {k = k} boundless x13 z h = elim x13 [ ]
between-within (fin false m e) {k = k} boundless x13 z h = elim x13 [ ]
between-within (fin true m e) {k = k} boundless x14 z h = elim x14 [ ]

-- ---- above what is not negative, and written in the one way: a smallest value at least

fits-down : (s : Bool) (m : ℕ) (e : ℤ) → T (fits binary32 (fin s (suc m) e)) → down e ≤ 2 ^ 149
unfolding fits
fits-down s m e f =
    leb→le (down e) (2 ^ 149)
    (and_r (eqb (suc m % 2) 1 && ltb (suc m) (2 ^ 24)) (leb (down e) (2 ^ 149))
    (and_l (eqb (suc m % 2) 1 && ltb (suc m) (2 ^ 24) && leb (down e) (2 ^ 149)) (ltb (suc m * up e) (2 ^ 128 * down e)) f))

scaled : (a d u : ℕ) → 0 < a → d ≤ u → 1 * d ≤ a * u
scaled a d u A h = mul-le-mul A h

pub greater-over : {x : Float} (y : Float) → NonNeg x → (x <ᶠ y) ≡ true → T (fits binary32 y) → Over 0 y
unfolding lt fits
greater-over nan plain h f = absurd (false≢true h)
greater-over nan boundless h f = absurd (false≢true h)
greater-over (inf true) plain h f = absurd (false≢true h)
greater-over (inf true) boundless h f = absurd (false≢true h)
greater-over (inf false) plain h f = infinite
greater-over (inf false) boundless h f = infinite
greater-over (fin true n d) plain h f = absurd (false≢true h)
greater-over (fin true n d) boundless h f = absurd (false≢true h)
greater-over (fin false zero d) (plain {m} {e}) h f =
    absurd (let p = ltb-true (m * up e * down d) (0 * up d * down e) h in let q : 0 * up d * down e ≡ 0 =
    simp zero-mul in omega arith)
greater-over (fin false zero d) boundless h f = absurd (false≢true h)
greater-over (fin false (suc n) d) plain h f =
    over (scaled (suc n * up d) (down d) (2 ^ 149) (mul-pos (zero-lt-suc n) (up_pos d)) (fits-down false n d f))
greater-over (fin false (suc n) d) boundless h f = absurd (false≢true h)
