-- Records added one by one give the figures of their list, and no figure grows past what its records allow. Assumes nothing.
use Rattle.std.proofs.Common.{◌≡◌, ℕ, zero, suc, ◌+◌, ◌*◌, ◌^◌, ◌<◌, ◌≤◌, max, Bool, true, false, not, eqb, List, [], ◌∷◌, length, get_or, sym, refl, ap, ◌∙◌, le_trans, add-zero, add_assoc, mod-eq_of_lt, le_antisymm, zero-add, arith, length-set, get_or-set_other, get_or-set_same, ext_get_or, eq-eqb, eqb-true}
use native.Mathlib.Nat.{zero-max, max-zero, max-le, le-max_left, le-max_right}
use mathlib.Core.Bool.{false≢true}
use mathlib.Core.List.{foldl}
use Rattle.arithmetic.specs.Binary32.{when◌then◌else◌}
use Rattle.answer_records.specs.declared.Answer.{Answer}
use Rattle.answer_records.specs.Answers.{no_failed_line}
use Rattle.answer_logs.specs.Logs.{Entry, outcome, refusal}
use Rattle.daily_tally.specs.declared.DayTally.{DayTally}
use Rattle.daily_tally.specs.Figures.{sum_of, largest_of, one, count_of, is_outcome, is_refusal, names_failed, probes_of, below, tally_of}
use Rattle.daily_tally.specs.Adding.{sum64, one_more, names_line, with_outcome, with_refusal, with_entry}

-- a tally with one record more, in whole numbers, which never wrap
abbrev plain : ℕ → ℕ → ℕ
plain a b = a + b

abbrev pub added : DayTally → Entry → DayTally
added = with_entry plain

-- the arrays have their lengths
pub record Sized (t : DayTally) : Type 0 where
  pub six : length t.outcomes ≡ 6
  pub sixteen : length t.refusals ≡ 16

sized-added : (t : DayTally) (e : Entry) → Sized t → Sized (added t e)
unfolding with_outcome with_refusal
sized-added t (outcome a) s = record { six = length-set t.outcomes a.code _ ∙ s.six; sixteen = s.sixteen }
sized-added t (refusal n) s = record { six = s.six; sixteen = length-set t.refusals n _ ∙ s.sixteen }

sized-fold : (t : DayTally) → Sized t → (l : List Entry) → Sized (foldl added t l)
sized-fold t s [] = s
sized-fold t s (e ∷ l) = sized-fold (added t e) (sized-added t e s) l

-- ---- a figure that each record raises by a number of its own

fold-figure : (figure : DayTally → ℕ) (number : Entry → ℕ) →
    ((t : DayTally) (e : Entry) → Sized t → figure (added t e) ≡ figure t + number e) →
    (t : DayTally) → Sized t → (l : List Entry) → figure (foldl added t l) ≡ figure t + sum_of number l
unfolding sum_of
fold-figure figure number step t s [] = sym (add-zero (figure t))
fold-figure figure number step t s (e ∷ l) =
    fold-figure figure number step (added t e) (sized-added t e s) l ∙ ap (λ (x : ℕ). x + sum_of number l) (step t e s)
    ∙ add_assoc (figure t) (number e) (sum_of number l)

-- ---- one more at an index

one-more-as : (l : List ℕ) (k c : ℕ) → c < length l → (b : Bool) → eqb k c ≡ b → get_or (one_more plain l k) c 0 ≡ get_or l c 0 + one b
unfolding one when◌then◌else◌
one-more-as l k c h true e = rw (eqb-true k c e) (get_or-set_same l c (get_or l c 0 + 1) 0 h)
one-more-as l k c h false e =
    get_or-set_other l k c (get_or l k 0 + 1) 0 (λ p. false≢true (sym e ∙ eq-eqb k c (sym p))) ∙ sym (add-zero (get_or l c 0))

one_more_lem : (l : List ℕ) (k c : ℕ) → c < length l → get_or (one_more plain l k) c 0 ≡ get_or l c 0 + one (eqb k c)
one_more_lem l k c h = one-more-as l k c h (eqb k c) refl

-- ---- a figure for each number below n

length-below : (n : ℕ) (f : ℕ → ℕ) → length (below n f) ≡ n
unfolding below
length-below zero f = refl
length-below (suc n) f = ap suc (length-below n (λ k. f (suc k)))

pub below_at : (n : ℕ) (f : ℕ → ℕ) (c : ℕ) → c < n → get_or (below n f) c 0 ≡ f c
unfolding below
below_at zero f c h = absurd (omega arith)
below_at (suc n) f zero h = refl
below_at (suc n) f (suc c) h = below_at n (λ k. f (suc k)) c (omega arith)

-- ---- the tally of no records

nothing-sized : Sized (tally_of [])
unfolding tally_of
nothing-sized = record { six = length-below 6 _; sixteen = length-below 16 _ }

-- ---- an array that counts the records of each number

-- its place c is raised by one where the record is of the number c
pub record Counts (array : DayTally → List ℕ) (is : ℕ → Entry → Bool) (n : ℕ) : Type 0 where
  pub at_first : array (tally_of []) ≡ below n (λ c. count_of (is c) [])
  pub sized : (t : DayTally) → Sized t → length (array t) ≡ n
  pub step : (c : ℕ) → c < n → (t : DayTally) (e : Entry) → Sized t → get_or (array (added t e)) c 0
      ≡ get_or (array t) c 0 + one (is c e)

module _ {array : DayTally → List ℕ} {is : ℕ → Entry → Bool} {n : ℕ} (k : Counts array is n) where
  none-counted : (c : ℕ) → c < n → get_or (array (tally_of [])) c 0 ≡ 0
  unfolding count_of sum_of
  none-counted c h = ap (λ (l : List ℕ). get_or l c 0) k.at_first ∙ below_at n (λ c. count_of (is c) []) c h

  counted : (c : ℕ) → c < n → (l : List Entry) → get_or (array (foldl added (tally_of []) l)) c 0 ≡ count_of (is c) l
  unfolding count_of
  counted c h l =
      fold-figure (λ t. get_or (array t) c 0) (λ e. one (is c e)) (k.step c h) (tally_of []) nothing-sized l
      ∙ ap (λ (x : ℕ). x + sum_of (λ e. one (is c e)) l) (none-counted c h) ∙ zero-add (sum_of (λ e. one (is c e)) l)

  all-counted : (l : List Entry) → array (foldl added (tally_of []) l) ≡ below n (λ c. count_of (is c) l)
  all-counted l =
      let size = k.sized (foldl added (tally_of []) l) (sized-fold (tally_of []) nothing-sized l) in
      ext_get_or 0 _ _ (size ∙ sym (length-below n _)) (λ c h. let low : c < n = omega (arith, size) in counted c low l
      ∙ sym (below_at n (λ c. count_of (is c) l) c low))

outcomes-count : Counts (λ t. t.outcomes) is_outcome 6
unfolding tally_of with_outcome with_refusal one when◌then◌else◌
outcomes-count = record { at_first = refl; sized = λ t s. s.six; step = step }
  where
    step : (c : ℕ) → c < 6 → (t : DayTally) (e : Entry) → Sized t → get_or (added t e).outcomes c 0
        ≡ get_or t.outcomes c 0 + one (is_outcome c e)
    step c h t (outcome a) s = one_more_lem t.outcomes a.code c (omega (arith, s.six))
    step c h t (refusal n) s = sym (add-zero (get_or t.outcomes c 0))

refusals-count : Counts (λ t. t.refusals) is_refusal 16
unfolding tally_of with_outcome with_refusal one when◌then◌else◌
refusals-count = record { at_first = refl; sized = λ t s. s.sixteen; step = step }
  where
    step : (c : ℕ) → c < 16 → (t : DayTally) (e : Entry) → Sized t → get_or (added t e).refusals c 0
        ≡ get_or t.refusals c 0 + one (is_refusal c e)
    step c h t (outcome a) s = sym (add-zero (get_or t.refusals c 0))
    step c h t (refusal n) s = one_more_lem t.refusals n c (omega (arith, s.sixteen))

-- ---- the other figures

probes-step : (t : DayTally) (e : Entry) → Sized t → (added t e).probes ≡ t.probes + probes_of e
unfolding with_outcome with_refusal
probes-step t (outcome a) s = refl
probes-step t (refusal n) s = sym (add-zero t.probes)

failed-step : (t : DayTally) (e : Entry) → Sized t → (added t e).failed ≡ t.failed + one (names_failed e)
unfolding with_outcome with_refusal names_line one when◌then◌else◌
failed-step t (outcome a) s = refl
failed-step t (refusal n) s = sym (add-zero t.failed)

max_assoc : (a b c : ℕ) → max (max a b) c ≡ max a (max b c)
max_assoc a b c =
    le_antisymm
    (max-le (max-le (le-max_left a (max b c)) (le_trans (le-max_left b c) (le-max_right a (max b c))))
    (le_trans (le-max_right b c) (le-max_right a (max b c))))
    (max-le (le_trans (le-max_left a b) (le-max_left (max a b) c))
    (max-le (le_trans (le-max_right a b) (le-max_left (max a b) c)) (le-max_right (max a b) c)))

largest_step : (t : DayTally) (e : Entry) → (added t e).largest ≡ max t.largest (probes_of e)
unfolding with_outcome with_refusal
largest_step t (outcome a) = refl
largest_step t (refusal n) = sym (max-zero t.largest)

largest-fold : (t : DayTally) (l : List Entry) → (foldl added t l).largest ≡ max t.largest (largest_of probes_of l)
unfolding largest_of
largest-fold t [] = sym (max-zero t.largest)
largest-fold t (e ∷ l) =
    largest-fold (added t e) l ∙ ap (λ (x : ℕ). max x (largest_of probes_of l)) (largest_step t e)
    ∙ max_assoc t.largest (probes_of e) (largest_of probes_of l)

-- ---- all of them

module _ (l : List Entry) where
  probes-fold : (foldl added (tally_of []) l).probes ≡ sum_of probes_of l
  unfolding tally_of sum_of
  probes-fold = fold-figure (λ t. t.probes) probes_of probes-step (tally_of []) nothing-sized l ∙ zero-add (sum_of probes_of l)

  largest-folded : (foldl added (tally_of []) l).largest ≡ largest_of probes_of l
  unfolding tally_of largest_of
  largest-folded = largest-fold (tally_of []) l ∙ zero-max (largest_of probes_of l)

  failed-fold : (foldl added (tally_of []) l).failed ≡ count_of names_failed l
  unfolding tally_of count_of sum_of
  failed-fold = fold-figure (λ t. t.failed) (λ e. one (names_failed e)) failed-step (tally_of []) nothing-sized l
      ∙ zero-add (sum_of (λ e. one (names_failed e)) l)

  pub tally-fold : foldl added (tally_of []) l ≡ tally_of l
  unfolding tally_of
  tally-fold = λ j. record {
    outcomes = all-counted outcomes-count l j;
    refusals = all-counted refusals-count l j;
    probes = probes-fold j;
    largest = largest-folded j;
    failed = failed-fold j;
  }

-- ---- no figure grows past what so many records allow

one-most : (b : Bool) → one b ≤ 1
unfolding one when◌then◌else◌
one-most true = omega arith
one-most false = omega arith

pub record Kept (place : ℕ) (t : DayTally) : Type 0 where
  pub arrays : Sized t
  pub outcomes-most : (c : ℕ) → c < 6 → get_or t.outcomes c 0 ≤ place
  pub refusals-most : (c : ℕ) → c < 16 → get_or t.refusals c 0 ≤ place
  pub probes-most : t.probes ≤ 4294967295 * place
  pub failed-most : t.failed ≤ place

pub kept-nothing : Kept 0 (tally_of [])
unfolding tally_of count_of sum_of
kept-nothing = record {
  arrays = nothing-sized;
  outcomes-most = λ c h. omega (arith, none-counted outcomes-count c h);
  refusals-most = λ c h. omega (arith, none-counted refusals-count c h);
  probes-most = omega arith;
  failed-most = omega arith;
}

module _ (place : ℕ) (t : DayTally) (kept : Kept place t) where
  pub kept-added : (e : Entry) → probes_of e < 2 ^ 32 → Kept (place + 1) (added t e)
  kept-added e h =
      record {
        arrays = sized-added t e kept.arrays;
        outcomes-most = λ c k. omega (
          arith,
          outcomes-count.step c k t e kept.arrays,
          one-most (is_outcome c e),
          kept.outcomes-most c k,
        );
        refusals-most = λ c k. omega (
          arith,
          refusals-count.step c k t e kept.arrays,
          one-most (is_refusal c e),
          kept.refusals-most c k,
        );
        probes-most = omega (arith, probes-step t e kept.arrays, kept.probes-most);
        failed-most = omega (arith, failed-step t e kept.arrays, one-most (names_failed e), kept.failed-most);
      }

  -- ---- nothing wraps

  module _ (h : place < 4294967295) where
    pub unwrapped-outcome : (a : Answer) → a.code < 6 → a.probes < 2 ^ 32 → with_outcome sum64 t a ≡ with_outcome plain t a
    unfolding with_outcome names_line
    unwrapped-outcome a k small =
        let counted : get_or t.outcomes a.code 0 + 1 < 2 ^ 64 = omega (arith, kept.outcomes-most a.code k) in
        let summed : t.probes + a.probes < 2 ^ 64 = omega (arith, kept.probes-most) in
        let named : t.failed + one (not (eqb a.failed no_failed_line)) < 2 ^ 64 =
        omega (arith, kept.failed-most, one-most (not (eqb a.failed no_failed_line))) in
        rw (mod-eq_of_lt counted, mod-eq_of_lt summed, mod-eq_of_lt named)

    pub unwrapped-refusal : (n : ℕ) → n < 16 → with_refusal sum64 t n ≡ with_refusal plain t n
    unfolding with_refusal
    unwrapped-refusal n k =
        let counted : get_or t.refusals n 0 + 1 < 2 ^ 64 = omega (arith, kept.refusals-most n k) in
        rw (mod-eq_of_lt counted)
