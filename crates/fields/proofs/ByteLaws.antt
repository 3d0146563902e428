-- Numbers and their bytes: each determines the other. Proved over the number of bytes. Assumes nothing.
use Prim.Native.Nat.{ℕ, zero, suc, ◌+◌, ◌*◌, ◌/◌, ◌%◌, ◌^◌, ◌<◌}
use native.Mathlib.Omega.{arith}
use native.Mathlib.Nat.{pow-suc, pow-succ', add-mul, mul-add-div_right, mul-add-mod_self_right, mul_assoc, add_assoc, zero-add, zero-mul, mod-eq_of_lt, mod-lt}
use mathlib.Core.Path.{◌≡◌, refl, ap, ◌∙◌}
use mathlib.Core.List.{List, [], ◌∷◌, ◌++◌}
use lib.ListN.{length}
use lib.Arith.{mod-mul, digits_lt, digits_div}
use lib.Dec.{lit<}
use Rattle.fields.specs.Bytes.{big_endian_number, big_endian_from, big_endian, each, AllBytes}

pub length-big-endian : (w x : ℕ) → length (big_endian w x) ≡ w
unfolding big_endian
length-big-endian zero x = refl
length-big-endian (suc w) x = ap suc (length-big-endian w x)

-- the weight of a byte is positive
weight : (w : ℕ) → 0 < 256 ^ w
weight zero = lit< tt
weight (suc w) = let h : 0 < 256 ^ w = weight w in let e : 256 ^ suc w ≡ 256 ^ w * 256 = pow-suc 256 w in omega arith

-- a number's bytes, read behind the number n
from_bytes : (n w x : ℕ) → big_endian_from n (big_endian w x) ≡ n * 256 ^ w + x % 256 ^ w
unfolding big_endian_from big_endian
from_bytes n zero x = omega arith
from_bytes n (suc w) x = from_bytes (n * 256 + x / 256 ^ w % 256) w x
    ∙ rw (pow-succ' 256 w, mod-mul x (lit< tt) (weight w)) (simp (add-mul, mul_assoc, add_assoc))

pub number-of-bytes : (w x : ℕ) → x < 256 ^ w → big_endian_number (big_endian w x) ≡ x
unfolding big_endian_number
number-of-bytes w x h = from_bytes 0 w x ∙ rw (zero-mul, zero-add, mod-eq_of_lt h)

-- what stands in front of bytes counts by their number
from-number : (n : ℕ) (l : List ℕ) → big_endian_from n l ≡ n * 256 ^ length l + big_endian_number l
unfolding big_endian_number big_endian_from
from-number n [] = omega arith
from-number n (b ∷ l) = rw (from-number (n * 256 + b) l, from-number (0 + b) l, pow-succ' 256 (length l))
    (simp (add-mul, mul_assoc, add_assoc, zero-add))

pub number_lt : (l : List ℕ) → AllBytes l → big_endian_number l < 256 ^ length l
unfolding big_endian_number big_endian_from
number_lt [] h = lit< tt
number_lt (b ∷ l) h =
    rw (from-number (0 + b) l, zero-add, pow-succ' 256 (length l)) (digits_lt (h 0) (number_lt l λ i. h (suc i)))

-- what stands above the w lowest bytes does not change them
bytes_high : (w q x : ℕ) → big_endian w (q * 256 ^ w + x) ≡ big_endian w x
unfolding big_endian
bytes_high zero q x = refl
bytes_high (suc w) q x =
    let e : q * 256 ^ suc w + x ≡ q * 256 * 256 ^ w + x = rw (pow-succ' 256 w, mul_assoc) in
    rw (e, mul-add-div_right (weight w) (q * 256) x, mul-add-mod_self_right q 256 (x / 256 ^ w), bytes_high w (q * 256) x)

-- bytes that are read and written again are the same
pub bytes-of-number : (l : List ℕ) → AllBytes l → big_endian (length l) (big_endian_number l) ≡ l
unfolding big_endian big_endian_number big_endian_from
bytes-of-number [] h = refl
bytes-of-number (b ∷ l) h =
    let k : AllBytes l = λ i. h (suc i) in
    let m : big_endian_number l < 256 ^ length l = number_lt l k in
    let e : big_endian_number (b ∷ l) ≡ b * 256 ^ length l + big_endian_number l = rw (from-number (0 + b) l, zero-add) in
    rw (e, digits_div b m, mod-eq_of_lt (h 0), bytes_high (length l) b (big_endian_number l), bytes-of-number l k)

pub big-endian-bytes : (w x : ℕ) → AllBytes (big_endian w x)
unfolding big_endian
big-endian-bytes zero x i = lit< tt
big-endian-bytes (suc w) x zero = mod-lt _ (lit< tt)
big-endian-bytes (suc w) x (suc i) = big-endian-bytes w x i

-- bytes behind bytes are bytes
pub append-bytes : (k l : List ℕ) → AllBytes k → AllBytes l → AllBytes (k ++ l)
append-bytes [] l p q i = q i
append-bytes (b ∷ k) l p q zero = p 0
append-bytes (b ∷ k) l p q (suc i) = append-bytes k l (λ j. p (suc j)) q i

pub each-bytes : {A : Type 0} (bytes : A → List ℕ) → ((a : A) → AllBytes (bytes a)) → (l : List A) → AllBytes (each bytes l)
unfolding each
each-bytes bytes h [] i = lit< tt
each-bytes bytes h (a ∷ l) i = append-bytes (bytes a) (each bytes l) (h a) (each-bytes bytes h l) i
