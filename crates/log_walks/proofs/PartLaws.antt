-- Laws of the records of a part: one by one, and that no limit is met. Assumes nothing.
use Prim.Native.Nat.{ℕ, zero, suc, ◌+◌, ◌-◌, ◌≤◌, ◌<◌}
use native.Mathlib.Omega.{arith}
use native.Mathlib.Decide.{ℕ_discrete}
use mathlib.Core.Path.{◌≡◌, refl, sym, ap, ◌∙◌}
use mathlib.Core.Bool.{Bool, true, false}
use mathlib.Core.List.{List, [], ◌∷◌, ◌++◌, append-nil}
use lib.Dec.{ltb}
use lib.ListN.{length, drop, length-drop, length-append}
use lib.Seq.{drop-drop}
use Rattle.std.specs.Prelude.{Some, None, Ok, Err}
use Rattle.arithmetic.specs.Binary32.{when◌then◌else◌}
use Rattle.answer_records.specs.Answers.{longest_answer}
use Rattle.answer_logs.specs.Logs.{Entry, Found, ended, bad, entry, found_in, Records, whole, refused_at, ahead, records_from, records_in}
use Rattle.answer_logs.specs.Parts.{waits, found_whole, whole_at, Wholes, reached, stopped, ahead_whole, onward_whole, wholes_from}
use Rattle.answer_logs.proofs.CutLaws.{ahead_all, joined_to, cut-anywhere, closing, closed, few-left}
use Rattle.log_walks.specs.Figures.{fallback, size_of, sizes}
use Rattle.log_walks.specs.Parts.{records_of, unplaced, wholes_of}
use Rattle.log_walks.specs.Walks.{passed_by}
use Rattle.log_walks.proofs.FoundLaws.{entry_found, size-within}
use Rattle.log_walks.proofs.SplitLaws.{few}
use Rattle.log_walks.proofs.WalkLaws.{passed-by, bad-by, end_by}

-- a record that is found whole has its size, and lies within the part
whole-entry : (s : List ℕ) (e : Entry) (size : ℕ) → found_whole s ≡ entry e size → (size ≡ size_of e) × (size ≤ length s)
unfolding found_whole when◌then◌else◌
whole-entry s e size p = go (waits s) p
  where
    go : (b : Bool) → (when b then ended else found_in s) ≡ entry e size → (size ≡ size_of e) × (size ≤ length s)
    go true q = absurd (let z : ◌≡◌ {A = ℕ} 0 1 = cc in omega arith)
    go false q = let z = entry_found s e size q in (z.0, z.2)

unplaced-ahead : (e : Entry) (size : ℕ) (w : Wholes) → unplaced (ahead_whole e size w) ≡ ahead_whole e size (unplaced w)
unplaced-ahead e size (reached l used) = refl
unplaced-ahead e size (stopped n place) = refl

pub none_found : found_whole [] ≡ ended
unfolding found_whole waits when◌then◌else◌
none_found = refl

none-whole : (left place : ℕ) → wholes_from left place [] ≡ reached [] 0
unfolding wholes_from
none-whole zero place = refl
none-whole (suc left) place = rw none_found

none_from : (left place : ℕ) (s : List ℕ) → length s ≡ 0 → wholes_from left place s ≡ reached [] 0
none_from left place [] h = none-whole left place
none_from left place (x ∷ s) h = absurd (omega arith)

-- ---- a limit that is no smaller than the bytes does not matter, nor does the place

module _ (s : List ℕ) (one two : ℕ → Wholes) (same : (size : ℕ) → 4 ≤ size → size ≤ length s → unplaced (one size)
    ≡ unplaced (two size)) where
  onward-enough : (p q : ℕ) (f : Found) → found_whole s ≡ f → unplaced (onward_whole p one f) ≡ unplaced (onward_whole q two f)
  onward-enough p q ended h = refl
  onward-enough p q (bad n) h = refl
  onward-enough p q (entry e size) h =
      let z = whole-entry s e size h in
      unplaced-ahead e size (one size) ∙ ap (ahead_whole e size) (same size (omega (arith, z, size-within e)) z.1)
      ∙ sym (unplaced-ahead e size (two size))

pub enough : (a b p q : ℕ) (s : List ℕ) → length s ≤ a → length s ≤ b → unplaced (wholes_from a p s) ≡ unplaced (wholes_from b q s)
unfolding wholes_from
enough zero b p q s h k = ap unplaced (none_from zero p s (omega arith) ∙ sym (none_from b q s (omega arith)))
enough (suc a) b p q s h k = go (λ size l m. enough a (b - 1) (p + 1) (q + 1) (drop size s)
    (omega (arith, length-drop size s)) (omega (arith, length-drop size s))) (ℕ_discrete (length s) 0)
  where
    go : ((size : ℕ) → 4 ≤ size → size ≤ length s → unplaced (wholes_from a (p + 1) (drop size s))
        ≡ unplaced (wholes_from (b - 1) (q + 1) (drop size s))) →
        Dec (length s ≡ 0) → unplaced (wholes_from (suc a) p s) ≡ unplaced (wholes_from b q s)
    go rest (yes z) = ap unplaced (none_from (suc a) p s z ∙ sym (none_from b q s z))
    go rest (no z) =
        let e : suc (b - 1) ≡ b = omega arith in
        onward-enough s _ _ rest p q (found_whole s) refl ∙ ap (λ (n : ℕ). unplaced (wholes_from n q s)) e

-- the records by the first of them
module _ (s : List ℕ) (one : ℕ → Wholes) (same : (size : ℕ) → 4 ≤ size → size ≤ length s → unplaced (one size)
    ≡ wholes_of (drop size s)) where
  first_by : (f : Found) → found_whole s ≡ f → unplaced (onward_whole 0 one f) ≡ onward_whole 0 (λ size. wholes_of (drop size s)) f
  first_by ended h = refl
  first_by (bad n) h = refl
  first_by (entry e size) h =
      let z = whole-entry s e size h in
      unplaced-ahead e size (one size) ∙ ap (ahead_whole e size) (same size (omega (arith, z, size-within e)) z.1)

pub first-whole : (s : List ℕ) → wholes_of s ≡ onward_whole 0 (λ size. wholes_of (drop size s)) (found_whole s)
unfolding wholes_of wholes_from
first-whole [] = rw none_found
first-whole (x ∷ s) =
    first_by (x ∷ s) _ (λ size l m. enough (length s) (length (drop size (x ∷ s))) 1 0 (drop size (x ∷ s))
    (omega (arith, length-drop size (x ∷ s))) (omega arith))
    (found_whole (x ∷ s)) refl

-- ---- a record of a part that is passed

pub record Passes (part : List ℕ) (at behind more : ℕ) : Type 0 where
  pub one : Entry
  pub ends : behind ≡ at + size_of one
  pub counts : more ≡ fallback one
  pub within : behind ≤ length part
  pub walks : wholes_of (drop at part) ≡ ahead_whole one (behind - at) (wholes_of (drop behind part))

module _ (part : List ℕ) (at : ℕ) where
  by-found : {f : Found} → found_whole (drop at part) ≡ f → wholes_of (drop at part)
      ≡ onward_whole 0 (λ size. wholes_of (drop size (drop at part))) f
  by-found e = first-whole (drop at part) ∙ ap (onward_whole 0 (λ size. wholes_of (drop size (drop at part)))) e

  pub part-passed : (behind m : ℕ) → Ok (Some (behind, m)) ≡ passed_by (whole_at part at) → Passes part at behind m
  unfolding whole_at
  part-passed behind m e =
      let r = passed-by at behind m (found_whole (drop at part)) e in
      let z = whole-entry (drop at part) r.one r.size r.there in
      let w = size-within r.one in
      let l = length-drop at part in
      let k = r.ends in
      let back : behind - at ≡ r.size = omega arith in
      record {
        one = r.one;
        ends = omega arith;
        counts = r.counts;
        within = omega arith;
        walks = by-found r.there ∙ rw (back, drop-drop r.size at part, ← r.ends);
      }

  pub part-bad : (r : ℕ) → Err r ≡ passed_by (whole_at part at) → wholes_of (drop at part) ≡ stopped r 0
  unfolding whole_at
  part-bad r e = by-found (bad-by at r (found_whole (drop at part)) e)

  pub part-ended : Ok None ≡ passed_by (whole_at part at) → wholes_of (drop at part) ≡ reached [] 0
  unfolding whole_at
  part-ended e = by-found (end_by at (found_whole (drop at part)) e)

-- ---- the bytes of the records, and what they leave

-- the records have the bytes that are used, and nothing whole stands behind them
pub record Measured (s : List ℕ) (l : List Entry) (used : ℕ) : Type 0 where
  pub bytes : used ≡ sizes l
  pub behind : found_whole (drop used s) ≡ ended

data MeasuredBy (s : List ℕ) : Wholes → Type 0 where
  measured : {l : List Entry} {used : ℕ} → Measured s l used → MeasuredBy s (reached l used)
  none-measured : {n place : ℕ} → MeasuredBy s (stopped n place)

measured-ahead : (s : List ℕ) (e : Entry) (size : ℕ) → size ≡ size_of e → (w : Wholes) → MeasuredBy (drop size s) w →
    MeasuredBy s (ahead_whole e size w)
unfolding sizes
measured-ahead s e size h (reached l used) (measured m) =
    measured {l = e ∷ l} {used = size + used} (record {
      bytes = omega (arith, m.bytes);
      behind = ap found_whole (sym (drop-drop used size s)) ∙ m.behind;
    })
measured-ahead s e size h (stopped n place) none-measured = none-measured

module _ (s : List ℕ) (place : ℕ) (more : ℕ → Wholes) (rest : (size : ℕ) → MeasuredBy (drop size s) (more size)) where
  measured-by : (f : Found) → found_whole s ≡ f → MeasuredBy s (onward_whole place more f)
  unfolding sizes
  measured-by ended h = measured {l = []} {used = 0} (record { bytes = refl; behind = h })
  measured-by (bad n) h = none-measured
  measured-by (entry e size) h = measured-ahead s e size (whole-entry s e size h).0 (more size) (rest size)

measured-from : (left place : ℕ) (s : List ℕ) → MeasuredBy s (wholes_from left place s)
unfolding wholes_from sizes
measured-from zero place [] = measured {l = []} {used = 0} (record { bytes = refl; behind = none_found })
measured-from zero place (x ∷ s) = none-measured
measured-from (suc left) place s =
    measured-by s place _ (λ size. measured-from left (place + 1) (drop size s)) (found_whole s) refl

measured-of : {s : List ℕ} {l : List Entry} {used : ℕ} → MeasuredBy s (reached l used) → Measured s l used
measured-of (measured m) = m

-- the same, with the place
placed : (w : Wholes) {l : List Entry} {used : ℕ} → unplaced w ≡ reached l used → w ≡ reached l used
placed (reached l used) e = e
placed (stopped n place) e = absurd (let z : ◌≡◌ {A = ℕ} 0 1 = cc in omega arith)

module _ (s : List ℕ) {l : List Entry} {used : ℕ} (e : wholes_of s ≡ reached l used) where
  from_all : wholes_from (length s) 0 s ≡ reached l used
  unfolding wholes_of
  from_all = placed (wholes_from (length s) 0 s) e

  pub measures : Measured s l used
  measures = measured-of (rw from_all at (measured-from (length s) 0 s))

  -- fewer bytes are left than an answer may have
  pub few-behind : (used ≤ length s) × (length s < used + longest_answer)
  few-behind = few-left (length s) 0 s from_all

-- where nothing whole stands there is no record
pub none-there : (s : List ℕ) → found_whole s ≡ ended → wholes_of s ≡ reached [] 0
none-there s e = first-whole s ∙ ap (onward_whole 0 (λ size. wholes_of (drop size s))) e

-- ---- what the records of a log tell, where a refusal's place does not matter

abbrev pub tells : {C : Type 0} → (List Entry → C) → (ℕ → C) → Records → C
tells good refuse (whole l) = good l
tells good refuse (refused_at n place) = refuse n

-- bytes that are left at the end are a record cut short
abbrev pub tells_part : {C : Type 0} → (List Entry → C) → (ℕ → C) → ℕ → Wholes → C
tells_part good refuse n (reached l used) = when ltb used n then refuse 2 else good l
tells_part good refuse n (stopped r place) = refuse r

module _ {C : Type 0} (refuse : ℕ → C) where
  tells-ahead : (good : List Entry → C) (e : Entry) (q : Records) → tells good refuse (ahead e q)
      ≡ tells (λ m. good (e ∷ m)) refuse q
  tells-ahead good e (whole m) = refl
  tells-ahead good e (refused_at n place) = refl

  tells_all : (good : List Entry → C) (l : List Entry) (q : Records) → tells good refuse (ahead_all l q)
      ≡ tells (λ m. good (l ++ m)) refuse q
  tells_all good [] q = refl
  tells_all good (e ∷ l) q = tells-ahead good e (ahead_all l q) ∙ tells_all (λ m. good (e ∷ m)) l q

  pub tells-same : (one two : List Entry → C) → ((m : List Entry) → one m ≡ two m) → (q : Records) →
      tells one refuse q ≡ tells two refuse q
  tells-same one two same (whole m) = same m
  tells-same one two same (refused_at n place) = refl

  module _ (good : List Entry → C) where
    closing-tells : (n place : ℕ) (w : Wholes) → tells good refuse (closing n place w) ≡ tells_part good refuse n (unplaced w)
    unfolding when◌then◌else◌
    closing-tells n place (stopped r p) = refl
    closing-tells n place (reached l used) = go (ltb used n)
      where
        go : (b : Bool) → tells good refuse (ahead_all l (when b then refused_at 2 (place + length l) else whole []))
            ≡ (when b then refuse 2 else good l)
        go true = tells_all good l (refused_at 2 (place + length l))
        go false = tells_all good l (whole []) ∙ ap good (append-nil l)

    tells-from : (left place : ℕ) (s : List ℕ) → length s ≤ left → tells good refuse (records_from left place s)
        ≡ tells_part good refuse (length s) (wholes_of s)
    unfolding wholes_of
    tells-from left place s h =
        ap (tells good refuse) (closed left place s) ∙ closing-tells (length s) place (wholes_from left place s)
        ∙ ap (tells_part good refuse (length s)) (enough left (length s) place 0 s h (omega arith))

    pub tells-wholes : (s : List ℕ) → tells good refuse (records_of s) ≡ tells_part good refuse (length s) (wholes_of s)
    unfolding records_of records_in
    tells-wholes s = tells-from (length s) 0 s (omega arith)

  limit-free : (good : List Entry → C) (left place : ℕ) (s : List ℕ) → length s ≤ left →
      tells good refuse (records_from left place s) ≡ tells good refuse (records_of s)
  limit-free good left place s h = tells-from good left place s h ∙ sym (tells-wholes good s)

  -- ---- however a log is cut

  module _ (good : List Entry → C) (s more : List ℕ) where
    abbrev all : ℕ
    all = length (s ++ more)

    joined : tells good refuse (records_of (s ++ more)) ≡ tells good refuse (joined_to all 0 s more (wholes_from all 0 s))
    unfolding records_of records_in
    joined = ap (tells good refuse) (cut-anywhere all 0 s more)

    same-wholes : unplaced (wholes_from all 0 s) ≡ wholes_of s
    unfolding wholes_of
    same-wholes = enough all (length s) 0 0 s (omega (arith, length-append s more)) (omega arith)

    -- the records of a part, then those of what it leaves with more behind it
    pub cut-tells : {l : List Entry} {used : ℕ} → wholes_of s ≡ reached l used →
        tells good refuse (records_of (s ++ more)) ≡ tells (λ m. good (l ++ m)) refuse (records_of (drop used s ++ more))
    cut-tells {l} {used} e =
        let m = measures s e in
        let rest = drop used s ++ more in
        let short : length rest ≤ all - length l =
        omega (
          arith,
          length-append (drop used s) more,
          length-append s more,
          length-drop used s,
          m.bytes,
          few l,
          (few-behind s e).0,
        ) in
        joined ∙ ap (λ (w : Wholes). tells good refuse (joined_to all 0 s more w)) (placed (wholes_from all 0 s) (same-wholes ∙ e))
        ∙ tells_all good l (records_from (all - length l) (0 + length l) rest)
        ∙ limit-free (λ m. good (l ++ m)) (all - length l) (0 + length l) rest short

    stopped-tells : (w : Wholes) {r : ℕ} → unplaced w ≡ stopped r 0 → tells good refuse (joined_to all 0 s more w) ≡ refuse r
    stopped-tells (reached l used) e = absurd (let z : ◌≡◌ {A = ℕ} 0 1 = cc in omega arith)
    stopped-tells (stopped n place) {r} e = let f : n ≡ r = cc in rw f

    pub cut-bad : {r : ℕ} → wholes_of s ≡ stopped r 0 → tells good refuse (records_of (s ++ more)) ≡ refuse r
    cut-bad e = joined ∙ stopped-tells (wholes_from all 0 s) (same-wholes ∙ e)
