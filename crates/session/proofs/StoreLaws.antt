-- A loop that stores a list behind the first n places: one element more, and no element left; and the origins that it
-- stores. Assumes nothing.
use Rattle.std.proofs.Common.{◌≡◌, ℕ, suc, ◌+◌, ◌*◌, ◌<◌, ◌≤◌, true, false, eqb, List, [], ◌∷◌, length, get_or, drop, set, refl, ◌∙◌, add-one, arith, drop_of_length-le, drop-cons, ne_eqb, eqb-true}
use lib.ListN.{length-replicate, get_or-replicate}
use lib.Seq.{sets}
use Rattle.lines.specs.Origins.{unknown, origins_of}
use Rattle.lines.proofs.OriginRows.{origins-long}
use Rattle.session.specs.Batches.{origins_for, fitting}

module _ {A : Type 0} (l m : List A) (n i : ℕ) where
  pub store-on : (d x : A) → i < length m → x ≡ get_or m i d → sets l (n + i) (drop i m)
      ≡ sets (set l (n + i) x) (n + (i + 1)) (drop (i + 1) m)
  store-on d x h e =
      let k : n + (i + 1) ≡ suc (n + i) = omega arith in
      rw (drop-cons m i d h, e, k, add-one)

  pub store-done : length m ≤ i → sets l (n + i) (drop i m) ≡ l
  store-done h = rw (drop_of_length-le m h)

-- ---- the origins of n lines: as many, and each the one that is brought, or unknown

pub origins-many : (n : ℕ) (os : List ℕ) → fitting (length os) n ≡ true → length (origins_for n os) ≡ n
unfolding origins_for fitting
origins-many n [] h = length-replicate n unknown
origins-many n (x ∷ xs) h =
    let some : eqb (length (x ∷ xs)) 0 ≡ false = ne_eqb (length (x ∷ xs)) 0 (λ z. omega arith) in
    let three = eqb-true (length (x ∷ xs)) (3 * n) (rw some at h) in
    origins-long (x ∷ xs) ∙ omega arith

pub origins-each : (n i : ℕ) (os : List ℕ) → i < n → get_or (origins_of os) i unknown ≡ get_or (origins_for n os) i unknown
unfolding origins_for origins_of
origins-each n i [] h = rw (get_or-replicate n i unknown unknown h) refl
origins-each n i (x ∷ xs) h = refl
