-- However a log is cut into parts, its records are those of the whole. Assumes nothing.
use Prim.Native.Nat.{ℕ, zero, suc, ◌+◌, ◌-◌, ◌≤◌, ◌<◌}
use native.Mathlib.Omega.{arith}
use native.Mathlib.Nat.{add-zero, sub-zero}
use mathlib.Core.Path.{◌≡◌, refl, sym, ap, ◌∙◌}
use mathlib.Core.Logic.{◌⊎◌, inl, inr, ⊎_elim}
use mathlib.Core.Bool.{Bool, true, false, false≢true, ◌&&◌, ◌||◌}
use mathlib.Core.List.{List, [], ◌∷◌, ◌++◌}
use lib.Dec.{eqb, leb, ltb}
use lib.ListN.{length, take, drop, get_or, length-drop, length-append, get_or-append}
use lib.Seq.{get_or-take, take-append-le, drop-append-le, drop-drop}
use borrow.Author.Tests.{leb-true, leb-false, lt-ltb, le-ltb, ltb-true, ltb-false, ne_eqb}
use Rattle.arithmetic.specs.Binary32.{when◌then◌else◌}
use Rattle.arithmetic.proofs.Choice.{and_left, and_right, or_cases}
use Rattle.words.specs.Words.{pair_of}
use Rattle.admission.specs.Faults.{Fault, must, ◌⊳◌, unless_fault}
use Rattle.answer_records.specs.Answers.{answer_version, longest_answer}
use Rattle.answer_records.specs.Replies as said
use Rattle.answer_records.specs.Replies.{Said, is_length, length_of_code, answer_fault, answer_in}
use Rattle.answer_logs.specs.Logs.{Entry, Found, ended, bad, entry, found_as, size_in, found_in, Records, whole, refused_at, ahead, onward, records_from}
use Rattle.answer_logs.specs.Parts.{waits, found_whole, Wholes, reached, stopped, ahead_whole, onward_whole, wholes_from}
use Rattle.answer_logs.proofs.LogLaws.{found-there, found-cut}

-- ---- a record that names more bytes than an answer has is refused, whatever stands in it

unnamed : (there : Bool) (f : Fault) (r : Said) → unless_fault said.unreadable (must there 2 ⊳ must false 2 ⊳ f) r
    ≡ said.unreadable 2
unnamed true f r = refl
unnamed false f r = refl

no_length : (n : ℕ) → 16 < n → is_length n ≡ false
unfolding is_length
no_length n h = rw (ne_eqb n 16 (λ e. omega arith), ne_eqb n 2 (λ e. omega arith))

overlong-reply : (s : List ℕ) → longest_answer < size_in s → answer_in s ≡ said.unreadable 2
unfolding answer_in answer_fault size_in
overlong-reply s h =
    rw (no_length (pair_of s 0) (omega arith))
    (unnamed (leb 2 (length s)) (must (eqb (length s) (2 + pair_of s 0)) 2 ⊳ must
    (eqb (get_or s 2 0) answer_version) 1 ⊳ must (eqb (length_of_code (get_or s 3 0)) (pair_of s 0)) 2) _)

size-take : (n : ℕ) (s : List ℕ) → 2 ≤ n → size_in (take n s) ≡ size_in s
unfolding size_in pair_of
size-take n s h = rw (get_or-take n s 0 0 (omega arith), get_or-take n s 1 0 (omega arith))

size-least : (s : List ℕ) → 2 ≤ size_in s
unfolding size_in
size-least s = omega arith

pub found-overlong : (s : List ℕ) → 0 < length s → longest_answer < size_in s → found_in s ≡ bad 2
found-overlong s h k =
    found-there s h ∙ ap (found_as (size_in s))
    (overlong-reply (take (size_in s) s) (omega (arith, size-take (size_in s) s (size-least s))))

-- ---- what stands at the start of a part stands there with more behind it

module _ (s more : List ℕ) where
  longer : length (s ++ more) ≡ length s + length more
  longer = length-append s more

  size-append : 2 ≤ length s → size_in (s ++ more) ≡ size_in s
  unfolding size_in pair_of
  size-append h = rw (get_or-append s more 0 0 (omega arith), get_or-append s more 0 1 (omega arith))

  found-append-whole : size_in s ≤ length s → found_in (s ++ more) ≡ found_in s
  found-append-whole h =
      let two = size-least s in
      let same = size-append (omega arith) in
      found-there (s ++ more) (omega (arith, longer))
      ∙ ap (λ (n : ℕ). found_as n (answer_in (take n (s ++ more)))) same
      ∙ ap (λ (t : List ℕ). found_as (size_in s) (answer_in t)) (take-append-le (size_in s) s more h)
      ∙ sym (found-there s (omega arith))

  found-append-overlong : 2 ≤ length s → longest_answer < size_in s → found_in (s ++ more) ≡ found_in s
  found-append-overlong h k =
      found-overlong (s ++ more) (omega (arith, longer)) (omega (arith, size-append h)) ∙ sym (found-overlong s (omega arith) k)

-- ---- a part that does not wait

or-false : (a b : Bool) → (a || b) ≡ false → (a ≡ false) × (b ≡ false)
or-false true b h = absurd (false≢true (sym h))
or-false false b h = (refl, h)

and-false : (a b : Bool) → (a && b) ≡ false → (a ≡ false) ⊎ (b ≡ false)
and-false true b h = inr h
and-false false b h = inl refl

-- a record found there lies within it
data Placed (s : List ℕ) : Found → Type 0 where
  placed-bad : {n : ℕ} → Placed s (bad n)
  placed-entry : {e : Entry} {size : ℕ} → size ≤ length s → Placed s (entry e size)

placed-reply : (s : List ℕ) (size : ℕ) (r : Said) → size ≤ length s → Placed s (found_as size r)
placed-reply s size (said.outcome a) h = placed-entry h
placed-reply s size (said.refusal n) h = placed-entry h
placed-reply s size (said.unreadable n) h = placed-bad

module _ (s : List ℕ) (sure : waits s ≡ false) where
  tests : (2 ≤ length s) × ((longest_answer < size_in s) ⊎ (size_in s ≤ length s))
  unfolding waits
  tests =
      let both = or-false (ltb (length s) 2) (leb (size_in s) longest_answer && ltb (length s) (size_in s)) sure in (
        ltb-false (length s) 2 both.0,
        ⊎_elim (λ e. inl (leb-false (size_in s) longest_answer e)) (λ e. inr (ltb-false (length s) (size_in s) e))
            (and-false (leb (size_in s) longest_answer) (ltb (length s) (size_in s)) both.1),
      )

  pub found-append : (more : List ℕ) → found_in (s ++ more) ≡ found_in s
  found-append more = ⊎_elim (found-append-overlong s more tests.0) (found-append-whole s more) tests.1

  placed : Placed s (found_in s)
  placed =
      let two : 0 < length s = omega (arith, tests.0) in
      ⊎_elim (λ k. rw (found-overlong s two k) placed-bad)
      (λ k. rw (found-there s two) (placed-reply s (size_in s) (answer_in (take (size_in s) s)) k)) tests.1

-- ---- the records of a part, and then of what it leaves with more behind it

abbrev pub ahead_all : List Entry → Records → Records
ahead_all [] w = w
ahead_all (e ∷ l) w = ahead e (ahead_all l w)

abbrev pub joined_to : ℕ → ℕ → List ℕ → List ℕ → Wholes → Records
joined_to left place s more (reached l used) = ahead_all l (records_from (left - length l) (place + length l) (drop used s ++ more))
joined_to left place s more (stopped n p) = refused_at n p

nothing_yet : (left place : ℕ) (s more : List ℕ) → records_from left place (s ++ more) ≡ joined_to left place s more (reached [] 0)
nothing_yet left place s more = rw (sub-zero left, add-zero place)

ahead-joined : (left place : ℕ) (s more : List ℕ) (e : Entry) (size : ℕ) (w : Wholes) →
    ahead e (joined_to left (place + 1) (drop size s) more w) ≡ joined_to (suc left) place s more (ahead_whole e size w)
ahead-joined left place s more e size (reached l used) =
    let less : left - length l ≡ suc left - suc (length l) = omega arith in
    let next : place + 1 + length l ≡ place + suc (length l) = omega arith in
    ap (λ (n : ℕ). ahead e (ahead_all l (records_from n (place + 1 + length l) (drop used (drop size s) ++ more)))) less
    ∙ ap (λ (n : ℕ). ahead e (ahead_all l (records_from (suc left - suc (length l)) n (drop used (drop size s) ++ more)))) next
    ∙ ap (λ (t : List ℕ). ahead e (ahead_all l (records_from (suc left - suc (length l)) (place + suc (length l))
    (t ++ more)))) (drop-drop used size s)
ahead-joined left place s more e size (stopped n p) = refl

module _ (left place : ℕ) (s more : List ℕ) (rest : (size : ℕ) → records_from left (place + 1) (drop size s ++ more)
    ≡ joined_to left (place + 1) (drop size s) more (wholes_from left (place + 1) (drop size s))) where
  step_cut : (f : Found) → Placed s f → onward place (λ size. records_from left (place + 1) (drop size (s ++ more))) f
      ≡ joined_to (suc left) place s more (onward_whole place (λ size. wholes_from left (place + 1) (drop size s)) f)
  step_cut (bad n) placed-bad = refl
  step_cut (entry e size) (placed-entry h) =
      ap (λ (t : List ℕ). ahead e (records_from left (place + 1) t)) (drop-append-le size s more h)
      ∙ ap (ahead e) (rest size) ∙ ahead-joined left place s more e size (wholes_from left (place + 1) (drop size s))
  step_cut ended x' = elim x' [ ]

  step_waits : (b : Bool) → waits s ≡ b →
      onward place (λ size. records_from left (place + 1) (drop size (s ++ more))) (found_in (s ++ more)) ≡
      joined_to (suc left) place s more (onward_whole place (λ size. wholes_from left (place + 1) (drop size s))
      (when b then ended else found_in s))
  unfolding when◌then◌else◌ records_from
  step_waits true e = nothing_yet (suc left) place s more
  step_waits false e = rw (found-append s e more) (step_cut (found_in s) (placed s e))

pub cut-anywhere : (left place : ℕ) (s more : List ℕ) → records_from left place (s ++ more)
    ≡ joined_to left place s more (wholes_from left place s)
unfolding records_from wholes_from found_whole
cut-anywhere zero place [] more = nothing_yet zero place [] more
cut-anywhere zero place (x ∷ s) more = refl
cut-anywhere (suc left) place s more =
    step_waits left place s more (λ size. cut-anywhere left (place + 1) (drop size s) more) (waits s) refl

-- ---- the end of a log: bytes that a part leaves are a record cut short

abbrev pub closing : ℕ → ℕ → Wholes → Records
closing n place (reached l used) = ahead_all l (when ltb used n then refused_at 2 (place + length l) else whole [])
closing n place (stopped m p) = refused_at m p

pub waits-cut : (s : List ℕ) → waits s ≡ true → length s < size_in s
unfolding waits
waits-cut s h =
    ⊎_elim (λ e. omega (arith, ltb-true (length s) 2 e, size-least s))
    (λ e. ltb-true (length s) (size_in s) (and_right (leb (size_in s) longest_answer) (ltb (length s) (size_in s)) e))
    (or_cases (ltb (length s) 2) (leb (size_in s) longest_answer && ltb (length s) (size_in s)) h)

behind_test : (used size n : ℕ) → size ≤ n → (b : Bool) → ltb used (n - size) ≡ b → ltb (size + used) n ≡ b
behind_test used size n h true e = let k = ltb-true used (n - size) e in lt-ltb (size + used) n (omega arith)
behind_test used size n h false e = let k = ltb-false used (n - size) e in le-ltb (size + used) n (omega arith)

ahead-closing : (place : ℕ) (s : List ℕ) (e : Entry) (size : ℕ) → size ≤ length s → (w : Wholes) →
    ahead e (closing (length (drop size s)) (place + 1) w) ≡ closing (length s) place (ahead_whole e size w)
ahead-closing place s e size h (reached l used) =
    let same = behind_test used size (length s) h (ltb used (length (drop size s))) (ap (ltb used) (sym (length-drop size s))) in
    let next : place + 1 + length l ≡ place + suc (length l) = omega arith in
    ap (λ (n : ℕ). ahead e (ahead_all l (when ltb used (length (drop size s)) then refused_at 2 n else whole []))) next
    ∙ ap (λ (b : Bool). ahead e (ahead_all l (when b then refused_at 2 (place + suc (length l)) else whole []))) (sym same)
ahead-closing place s e size h (stopped m p) = refl

waiting-end : (place : ℕ) (s : List ℕ) (more : ℕ → Records) → waits s ≡ true → onward place more (found_in s)
    ≡ closing (length s) place (reached [] 0)
unfolding found_in when◌then◌else◌
waiting-end place [] more h = refl
waiting-end place (x ∷ s) more h = rw (
  found-cut (x ∷ s) (omega arith) (waits-cut (x ∷ s) h),
  lt-ltb 0 (length (x ∷ s)) (omega arith),
  add-zero place,
)

module _ (left place : ℕ) (s : List ℕ) (rest : (size : ℕ) → records_from left (place + 1) (drop size s)
    ≡ closing (length (drop size s)) (place + 1) (wholes_from left (place + 1) (drop size s))) where
  close-placed : (f : Found) → Placed s f → onward place (λ size. records_from left (place + 1) (drop size s)) f
      ≡ closing (length s) place (onward_whole place (λ size. wholes_from left (place + 1) (drop size s)) f)
  close-placed (bad n) placed-bad = refl
  close-placed (entry e size) (placed-entry h) =
      ap (ahead e) (rest size) ∙ ahead-closing place s e size h (wholes_from left (place + 1) (drop size s))
  close-placed ended x' = elim x' [ ]

  close-waits : (b : Bool) → waits s ≡ b → onward place (λ size. records_from left (place + 1) (drop size s)) (found_in s) ≡
      closing (length s) place (onward_whole place (λ size. wholes_from left (place + 1) (drop size s))
      (when b then ended else found_in s))
  unfolding when◌then◌else◌
  close-waits true e = waiting-end place s _ e
  close-waits false e = close-placed (found_in s) (placed s e)

pub closed : (left place : ℕ) (s : List ℕ) → records_from left place s ≡ closing (length s) place (wholes_from left place s)
unfolding records_from wholes_from found_whole when◌then◌else◌
closed zero place [] = refl
closed zero place (x ∷ s) = refl
closed (suc left) place s = close-waits left place s (λ size. closed left (place + 1) (drop size s)) (waits s) refl

-- ---- few bytes wait for the next part

pub waiting_few : (s : List ℕ) → waits s ≡ true → length s < longest_answer
unfolding waits
waiting_few s h =
    ⊎_elim (λ e. omega (arith, ltb-true (length s) 2 e))
    (λ e. omega (
      arith,
      leb-true (size_in s) longest_answer
          (and_left (leb (size_in s) longest_answer) (ltb (length s) (size_in s)) e),
      waits-cut s h,
    ))
    (or_cases (ltb (length s) 2) (leb (size_in s) longest_answer && ltb (length s) (size_in s)) h)

data Few (n : ℕ) : Wholes → Type 0 where
  few-reached : {l : List Entry} {used : ℕ} → used ≤ n → n < used + longest_answer → Few n (reached l used)
  few-stopped : {m p : ℕ} → Few n (stopped m p)

few-ahead : (s : List ℕ) (e : Entry) (size : ℕ) → size ≤ length s → (w : Wholes) → Few (length (drop size s)) w →
    Few (length s) (ahead_whole e size w)
few-ahead s e size h (reached l used) (few-reached p q) =
    few-reached {used = size + used} (omega (arith, length-drop size s)) (omega (arith, length-drop size s))
few-ahead s e size h (stopped m p) few-stopped = few-stopped

module _ (place : ℕ) (s : List ℕ) (rest : ℕ → Wholes) (few-rest : (size : ℕ) → Few (length (drop size s)) (rest size)) where
  few-placed : (f : Found) → Placed s f → Few (length s) (onward_whole place rest f)
  few-placed (bad n) placed-bad = few-stopped
  few-placed (entry e size) (placed-entry h) = few-ahead s e size h (rest size) (few-rest size)
  few-placed ended x' = elim x' [ ]

  few-waits : (b : Bool) → waits s ≡ b → Few (length s) (onward_whole place rest (when b then ended else found_in s))
  unfolding when◌then◌else◌
  few-waits true e = few-reached {used = 0} (omega arith) (omega (arith, waiting_few s e))
  few-waits false e = few-placed (found_in s) (placed s e)

few : (left place : ℕ) (s : List ℕ) → Few (length s) (wholes_from left place s)
unfolding wholes_from found_whole
few zero place [] = few-reached {used = 0} (omega arith) (omega arith)
few zero place (x ∷ s) = few-stopped
few (suc left) place s = few-waits place s _ (λ size. few left (place + 1) (drop size s)) (waits s) refl

few-of : {n : ℕ} {l : List Entry} {used : ℕ} → Few n (reached l used) → (used ≤ n) × (n < used + longest_answer)
few-of (few-reached p q) = (p, q)

pub few-left : (left place : ℕ) (s : List ℕ) {l : List Entry} {used : ℕ} → wholes_from left place s ≡ reached l used →
    (used ≤ length s) × (length s < used + longest_answer)
few-left left place s e = few-of (rw e at (few left place s))
