-- Laws of a log that splits into records: a walk from any of them meets those behind it, one by one. Assumes nothing.
use Prim.Native.Nat.{ℕ, zero, suc, ◌+◌, ◌*◌, ◌≤◌}
use native.Mathlib.Omega.{arith}
use native.Mathlib.Nat.{zero-add, add_assoc}
use mathlib.Core.Path.{◌≡◌, refl, sym, ap, ◌∙◌}
use mathlib.Core.List.{List, [], ◌∷◌, ◌++◌}
use lib.ListN.{length, take, drop, length-drop, length-append, take-append-drop, drop_of_length-le}
use lib.Seq.{drop-drop, take-add, take-append-le, drop-append-le}
use Rattle.answer_records.specs.declared.Answer.{Answer}
use Rattle.answer_records.specs.Replies as said
use Rattle.answer_records.specs.Replies.{answer_in}
use Rattle.answer_logs.specs.Logs.{Entry, outcome, refusal, Found, ended, bad, entry, found_in, Records, whole, refused_at, ahead, onward, records_from, records_in}
use Rattle.std.specs.Prelude.{Ok}
use Rattle.log_walks.specs.Figures.{size_of, sizes, fallbacks}
use Rattle.log_walks.specs.Parts.{records_of}
use Rattle.log_walks.specs.Walks.{walked}
use Rattle.log_walks.proofs.FoundLaws.{Sized, sized-end, sized, entry_found, size-within, one-outcome, one-refusal, same_start}
use Rattle.log_walks.proofs.WalkLaws.{one-fallback}

-- the bytes are these records, one behind the other
pub data Splits : List ℕ → List Entry → Type 0 where
  none : Splits [] []
  next : {s : List ℕ} {e : Entry} {l : List Entry} → found_in s ≡ entry e (size_of e) → size_of e ≤ length s →
      Splits (drop (size_of e) s) l → Splits s (e ∷ l)

pub first_found : {s : List ℕ} {e : Entry} {l : List Entry} → Splits s (e ∷ l) → found_in s ≡ entry e (size_of e)
first_found (next p k t) = p

-- ---- the list of records

-- a record in front of others
ahead-whole : {C : Type 0} (e : Entry) (q : Records) {l : List Entry} → ahead e q ≡ whole l →
    ((t : List Entry) → q ≡ whole t → e ∷ t ≡ l → C) → C
ahead-whole e (whole t) p go = go t refl cc
ahead-whole e (refused_at n place) p go = absurd (let z : ◌≡◌ {A = ℕ} 0 1 = cc in omega arith)

no-records : (s : List ℕ) (l : List Entry) → length s ≡ 0 → whole [] ≡ whole l → Splits s l
no-records [] l h e = let f : [] ≡ l = cc in rw (← f) none
no-records (x ∷ s) l h e = absurd (omega arith)

module _ (place : ℕ) (s : List ℕ) (more : ℕ → Records) (rest : (size : ℕ) (l : List Entry) → more size ≡ whole l →
    Splits (drop size s) l) where
  first_of : (f : Found) → found_in s ≡ f → Sized s f → (l : List Entry) → onward place more f ≡ whole l → Splits s l
  first_of ended p (sized-end h) l e = no-records s l h e
  first_of (bad n) p h l e = absurd (let z : ◌≡◌ {A = ℕ} 0 1 = cc in omega arith)
  first_of (entry x size) p h l e =
      let z = entry_found s x size p in
      ahead-whole x (more size) e λ t f g.
      rw (← g) (next {s = s} {e = x} {l = t} (rw (← z.0) p) (omega arith) (rw (← z.0) (rest size t f)))

splits-from : (left place : ℕ) (s : List ℕ) (l : List Entry) → records_from left place s ≡ whole l → Splits s l
unfolding records_from
splits-from zero place [] l e = no-records [] l refl e
splits-from zero place (x ∷ s) l e = absurd (let z : ◌≡◌ {A = ℕ} 0 1 = cc in omega arith)
splits-from (suc left) place s l e =
    first_of place s _ (λ size t f. splits-from left (place + 1) (drop size s) t f) (found_in s) refl (sized s) l e

pub splits : (s : List ℕ) (l : List Entry) → records_of s ≡ whole l → Splits s l
unfolding records_of records_in
splits s l e = splits-from (length s) 0 s l e

-- and back
recorded : (left place : ℕ) {s : List ℕ} {l : List Entry} → Splits s l → length l ≤ left → records_from left place s ≡ whole l
unfolding records_from found_in
recorded zero place none h = refl
recorded (suc left) place none h = refl
recorded zero place (next p k t) h = absurd (omega arith)
recorded (suc left) place (next {e = e} p k t) h = rw p (ap (ahead e) (recorded left (place + 1) t (omega arith)))

-- ---- sizes and places

-- as many bytes as the records have
pub all-bytes : {s : List ℕ} {l : List Entry} → Splits s l → sizes l ≡ length s
unfolding sizes
all-bytes none = refl
all-bytes (next {s} {e} p k t) = omega (arith, all-bytes t, length-drop (size_of e) s)

-- each has four bytes at least
pub few : (l : List Entry) → 4 * length l ≤ sizes l
unfolding sizes
few [] = omega arith
few (e ∷ l) = omega (arith, few l, size-within e)

pub records-there : {s : List ℕ} {l : List Entry} → Splits s l → records_of s ≡ whole l
unfolding records_of records_in
records-there {s} {l} t = recorded (length s) 0 t (omega (arith, few l, all-bytes t))

-- n records on
pub splits-behind : (n : ℕ) {s : List ℕ} {l : List Entry} → Splits s l → n ≤ length l →
    Splits (drop (sizes (take n l)) s) (drop n l)
unfolding sizes
splits-behind zero t h = t
splits-behind (suc n) none h = absurd (omega arith)
splits-behind (suc n) (next {s} {e} {l} p k t) h =
    rw (← drop-drop (sizes (take n l)) (size_of e) s) (splits-behind n t (omega arith))

-- a walk meets the records one by one
pub walked_whole : (n : ℕ) {s : List ℕ} {l : List Entry} → Splits s l → n ≤ length l →
    walked n s ≡ Ok (fallbacks (take n l))
unfolding walked fallbacks
walked_whole zero t h = refl
walked_whole (suc n) none h = absurd (omega arith)
walked_whole (suc n) (next p k t) h = rw (p, walked_whole n t (omega arith))

-- ---- figures of two lists, one behind the other

pub sizes-append : (xs ys : List Entry) → sizes (xs ++ ys) ≡ sizes xs + sizes ys
unfolding sizes
sizes-append [] ys = sym (zero-add (sizes ys))
sizes-append (x ∷ xs) ys = rw (sizes-append xs ys, add_assoc)

pub fallbacks-append : (xs ys : List Entry) → fallbacks (xs ++ ys) ≡ fallbacks xs + fallbacks ys
unfolding fallbacks
fallbacks-append [] ys = sym (zero-add (fallbacks ys))
fallbacks-append (x ∷ xs) ys = rw (fallbacks-append xs ys, add_assoc)

pub fallbacks-on : (m n : ℕ) (l : List Entry) → fallbacks (take (m + n) l) ≡ fallbacks (take m l) + fallbacks (take n (drop m l))
fallbacks-on m n l = ap fallbacks (take-add m n l) ∙ fallbacks-append (take m l) (take n (drop m l))

pub sizes-within : (n : ℕ) (l : List Entry) → sizes (take n l) ≤ sizes l
sizes-within n l = omega (arith, sym (sizes-append (take n l) (drop n l)) ∙ ap sizes (take-append-drop n l))

-- fallbacks are fewer than bytes
pub fallbacks-few : (l : List Entry) → fallbacks l ≤ sizes l
unfolding sizes fallbacks
fallbacks-few [] = omega arith
fallbacks-few (e ∷ l) = omega (arith, fallbacks-few l, one-fallback e, size-within e)

-- ---- two logs, one behind the other

found-stays : (s u : List ℕ) (e : Entry) → found_in s ≡ entry e (size_of e) → size_of e ≤ length s →
    found_in (s ++ u) ≡ entry e (size_of e)
found-stays s u e p h =
    let z = entry_found s e (size_of e) p in
    sym (same_start (size_of e) s (s ++ u) (sym (take-append-le (size_of e) s u h)) h (omega arith)) ∙ p

pub splits-append : {s : List ℕ} {l : List Entry} {u : List ℕ} {m : List Entry} → Splits s l → Splits u m →
    Splits (s ++ u) (l ++ m)
splits-append none v = v
splits-append {u = u} {m = m} (next {s} {e} {l} p k t) v =
    next {l = l ++ m} (found-stays s u e p k) (omega (arith, length-append s u))
    (rw (drop-append-le (size_of e) s u k) (splits-append t v))

-- ---- bytes that are one record

alone : (s : List ℕ) (e : Entry) → found_in s ≡ entry e (size_of e) → length s ≡ size_of e → Splits s (e ∷ [])
alone s e p h = let most : length s ≤ size_of e = omega arith in next {l = []} p (omega arith) (rw (drop_of_length-le s most) none)

pub alone-outcome : (s : List ℕ) (a : Answer) → answer_in s ≡ said.outcome a → Splits s (outcome a ∷ [])
alone-outcome s a e = let z = one-outcome s a e in alone s (outcome a) z.0 z.1

pub alone-refusal : (s : List ℕ) (n : ℕ) → answer_in s ≡ said.refusal n → Splits s (refusal n ∷ [])
alone-refusal s n e = let z = one-refusal s n e in alone s (refusal n) z.0 z.1
