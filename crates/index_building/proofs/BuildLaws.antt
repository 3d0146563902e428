-- Laws of a build in the code's steps: a part's records are walked, and the entries that they complete are stored.
-- Assumes nothing.
use Prim.Native.Nat.{ℕ, suc, ◌+◌, ◌-◌, ◌*◌, ◌/◌, ◌%◌, ◌≤◌, ◌<◌}
use native.Mathlib.Omega.{arith}
use native.Mathlib.Decide.{dec_le, ℕ_discrete}
use native.Mathlib.Nat.{zero-add, add-zero, add_assoc}
use mathlib.Core.Path.{◌≡◌, refl, sym, ap, ◌∙◌}
use mathlib.Core.Bool.{true, false≢true}
use mathlib.Core.List.{List, [], ◌∷◌, ◌++◌, foldl}
use lib.Dec.{leb}
use lib.ListN.{length, drop, length-append}
use lib.Seq.{sets, length-sets}
use borrow.Author.Tests.{leb-true, le-leb, lt-leb, eq-eqb, ne_eqb}
use Rattle.std.specs.Prelude.{Option, Some, None, Result, Ok, Err}
use Rattle.std.specs.Result.{result_unwrap_or}
use Rattle.arithmetic.specs.Binary32.{when◌then◌else◌}
use Rattle.fields.proofs.StoreLaws.{sets-append}
use Rattle.admission.specs.declared.refusal.Refusal.{Refusal}
use Rattle.admission.specs.Refusals.{number_of}
use Rattle.admission.specs.Faults.{Fault, fine, fault, must, unless_fault}
use Rattle.admission.proofs.FaultLaws.{⊳-fine, must-fine}
use Rattle.answer_records.specs.Answers.{longest_answer}
use Rattle.answer_records.specs.Numbers.{numbered}
use Rattle.answer_logs.specs.Logs.{Entry}
use Rattle.answer_logs.specs.Parts.{whole_at, Wholes, reached, stopped, ahead_whole}
use Rattle.log_walks.specs.Figures.{fallback, fallbacks, size_of, sizes}
use Rattle.log_walks.specs.Walks.{Passed, passed_by}
use Rattle.log_walks.specs.Parts.{is_whole, wholes_of}
use Rattle.log_walks.proofs.FoundLaws.{size-within}
use Rattle.log_walks.proofs.WalkLaws.{one-fallback}
use Rattle.log_walks.proofs.PartLaws.{Passes, part-passed, part-bad, part-ended, few-behind}
use Rattle.index_building.specs.declared.Extent.{Extent}
use Rattle.index_building.specs.declared.PartBuilt.{PartBuilt}
use Rattle.index_building.specs.Indexes.{new_entry, Standing, standing, laid_over, put_over}
use Rattle.index_building.specs.Builds.{extent, with_record, entry_here, completed, most64, extent_fault, completed_by, Progress, progress_by, part_built, part_by, part_over}
use Rattle.index_building.proofs.LengthLaws.{entry_length}
use Rattle.index_building.proofs.LaidLaws.{nothing-laid, laid-length}

-- ---- what a part may bring

-- the code's test
pub room-test : (b n : ℕ) → n ≤ most64 → leb b (most64 - n) ≡ leb (b + n) most64
room-test b n h = go (dec_le (b + n) most64)
  where
    go : Dec (b + n ≤ most64) → leb b (most64 - n) ≡ leb (b + n) most64
    go (yes p) = le-leb b (most64 - n) (omega arith) ∙ sym (le-leb (b + n) most64 p)
    go (no p) = lt-leb b (most64 - n) (omega arith) ∙ sym (lt-leb (b + n) most64 (omega arith))

-- ---- one record more

progress-ahead : (at : ℕ) (x : Extent) (e : Entry) (size : ℕ) (w : Wholes) → progress_by at x (ahead_whole e size w)
    ≡ progress_by (at + size) (with_record x e) w
progress-ahead at x e size (reached l used) =
    let there : ℕ → Progress = λ n. Ok (n, foldl with_record (with_record x e) l) in
    ap there (sym (add_assoc at size used))
progress-ahead at x e size (stopped n place) = refl

whole-ahead : (e : Entry) (size : ℕ) (w : Wholes) → is_whole (ahead_whole e size w) ≡ true → is_whole w ≡ true
whole-ahead e size (reached l used) h = refl
whole-ahead e size (stopped n place) h = h

completed-ahead : (x : Extent) (e : Entry) (size : ℕ) (w : Wholes) → is_whole w ≡ true →
    completed_by x (ahead_whole e size w) ≡ entry_here (with_record x e) ++ completed_by (with_record x e) w
unfolding completed
completed-ahead x e size (reached l used) h = refl
completed-ahead x e size (stopped n place) h = absurd (false≢true h)

-- ---- the loops' steps

-- no number grew by more than the bytes that were passed
pub record Grown (before x : Extent) (at : ℕ) : Type 0 where
  pub by_bytes : x.bytes ≤ before.bytes + at
  pub by-records : x.records ≤ before.records + at
  pub by-fallbacks : x.fallbacks ≤ before.fallbacks + at

pub none-grown : (x : Extent) → Grown x x 0
none-grown x = record { by_bytes = omega arith; by-records = omega arith; by-fallbacks = omega arith }

module _ (part : List ℕ) (before : Extent) (fits : extent_fault (length part) before ≡ fine) where
  room : (before.bytes + length part ≤ most64) × (before.records + length part ≤ most64)
      × (before.fallbacks + length part ≤ most64)
  unfolding extent_fault
  room =
      let a = ⊳-fine (must (leb (before.bytes + length part) most64) 4) fits in
      let b = ⊳-fine (must (leb (before.records + length part) most64) 4) a.1 in (
        leb-true _ _ (must-fine _ 4 a.0),
        leb-true _ _ (must-fine _ 4 b.0),
        leb-true _ _ (must-fine _ 4 b.1),
      )

  module _ {x : Extent} {at : ℕ} (g : Grown before x at) (behind m : ℕ) (e : Ok (Some (behind, m))
      ≡ passed_by (whole_at part at)) where
    pub step : Passes part at behind m
    step = part-passed part at behind m e

    pub step-on : at < behind
    step-on = omega (arith, step.ends, size-within step.one)

    -- the numbers with the record fit
    pub step_fits : (x.bytes + (behind - at) ≤ most64) × (x.records + 1 ≤ most64) × (x.fallbacks + m ≤ most64)
    step_fits =
        let s = step in
        let z = size-within s.one in
        let f = one-fallback s.one in
        let k = s.ends in
        let c = s.counts in
        let w = s.within in
        (omega (arith, room.0, g.by_bytes), omega (arith, room.1, g.by-records), omega (arith, room.2, g.by-fallbacks))

    module _ {y : Extent} (p : y ≡ extent (x.bytes + (behind - at)) (x.records + 1) (x.fallbacks + m)) where
      pub step-extent : y ≡ with_record x step.one
      unfolding with_record
      step-extent =
          let size : behind - at ≡ size_of step.one = omega (arith, step.ends) in
          p ∙ ap (λ (n : ℕ). extent (x.bytes + n) (x.records + 1) (x.fallbacks + m)) size
          ∙ ap (λ (n : ℕ). extent (x.bytes + size_of step.one) (x.records + 1) (x.fallbacks + n)) step.counts

      pub step-grown : Grown before y behind
      step-grown =
          let z = size-within step.one in
          let f = one-fallback step.one in
          let k = step.ends in
          let c = step.counts in
          rw p (record {
            by_bytes = omega (arith, g.by_bytes);
            by-records = omega (arith, g.by-records);
            by-fallbacks = omega (arith, g.by-fallbacks);
          })

      pub walks-on : progress_by at x (wholes_of (drop at part)) ≡ progress_by behind y (wholes_of (drop behind part))
      walks-on =
          let back : at + (behind - at) ≡ behind = omega (arith, step.ends) in
          ap (progress_by at x) step.walks ∙ progress-ahead at x step.one (behind - at) (wholes_of (drop behind part))
          ∙ ap (λ (n : ℕ). progress_by n (with_record x step.one) (wholes_of (drop behind part))) back
          ∙ ap (λ (z : Extent). progress_by behind z (wholes_of (drop behind part))) (sym step-extent)

      -- what is left to store, where no record is bad
      module _ (whole : is_whole (wholes_of (drop at part)) ≡ true) where
        pub still-whole : is_whole (wholes_of (drop behind part)) ≡ true
        still-whole = whole-ahead step.one (behind - at) (wholes_of (drop behind part)) (rw step.walks at whole)

        pub stores-on : completed_by x (wholes_of (drop at part)) ≡ entry_here y ++ completed_by y (wholes_of (drop behind part))
        stores-on =
            ap (completed_by x) step.walks ∙ completed-ahead x step.one (behind - at)
            (wholes_of (drop behind part)) still-whole
            ∙ ap (λ (z : Extent). entry_here z ++ completed_by z (wholes_of (drop behind part))) (sym step-extent)

pub walked-bad : (part : List ℕ) (at : ℕ) (x : Extent) (r : ℕ) → Err r ≡ passed_by (whole_at part at) →
    Err r ≡ progress_by at x (wholes_of (drop at part))
walked-bad part at x r e = rw (part-bad part at r e)

pub walked_through : (part : List ℕ) (at : ℕ) (x : Extent) → Ok None ≡ passed_by (whole_at part at) →
    Ok (at, x) ≡ progress_by at x (wholes_of (drop at part))
walked_through part at x e = rw (part-ended part at e, add-zero at)

-- ---- storing the entries

-- a step that passes over a bad record passes a record or the end as they are
pub passed-there : (r : Result (Option (ℕ × ℕ)) Refusal) {u : Option (ℕ × ℕ)} {n : ℕ × ℕ} {q : Passed} → numbered r ≡ q →
    u ≡ result_unwrap_or r None → u ≡ Some n → Ok (Some n) ≡ q
passed-there (Ok v) p e f = ap Ok (sym (sym e ∙ f)) ∙ p
passed-there (Err v) p e f = absurd (let g = sym e ∙ f in let z : ◌≡◌ {A = ℕ} 0 1 = cc in omega arith)

pub none-there : (r : Result (Option (ℕ × ℕ)) Refusal) {u : Option (ℕ × ℕ)} {q : Passed} → numbered r ≡ q →
    u ≡ result_unwrap_or r None → u ≡ None → ((n : ℕ) → Err n ≡ q → ⊥) → Ok None ≡ q
none-there (Ok v) p e f bad = ap Ok (sym (sym e ∙ f)) ∙ p
none-there (Err v) p e f bad = absurd (bad (number_of v) p)

-- `to` is the next entry's place, and what was stored and what is left make up the whole
pub record Filling (part : List ℕ) (before : Extent) (l : List ℕ) (start : ℕ) (buffer : List ℕ) (at to : ℕ)
    (x : Extent) : Type 0 where
  pub within : at ≤ length part
  pub grown : Grown before x at
  pub whole : is_whole (wholes_of (drop at part)) ≡ true
  pub room-left : to + length (completed_by x (wholes_of (drop at part))) ≤ length buffer
  pub stands : sets l start (completed_by before (wholes_of part)) ≡ sets buffer to (completed_by x (wholes_of (drop at part)))

module _ {part : List ℕ} {before : Extent} {l : List ℕ} {start : ℕ} (fits : extent_fault (length part) before
    ≡ fine) {buffer : List ℕ} {at to : ℕ} {x : Extent}
    (g : Filling part before l start buffer at to x) where
  module _ (behind m : ℕ) (e : Ok (Some (behind, m)) ≡ passed_by (whole_at part at)) {y : Extent} (p : y
      ≡ extent (x.bytes + (behind - at)) (x.records + 1) (x.fallbacks + m)) where
    left : completed_by x (wholes_of (drop at part)) ≡ entry_here y ++ completed_by y (wholes_of (drop behind part))
    left = stores-on part before fits g.grown behind m e p g.whole

    lengths : length (completed_by x (wholes_of (drop at part)))
        ≡ length (entry_here y) + length (completed_by y (wholes_of (drop behind part)))
    lengths = ap length left ∙ length-append (entry_here y) (completed_by y (wholes_of (drop behind part)))

    pub entry-room : to + length (entry_here y) ≤ length buffer
    entry-room = omega (arith, lengths, g.room-left)

    pub fills-on : {out : List ℕ} {next : ℕ} → out ≡ sets buffer to (entry_here y) → next ≡ to + length (entry_here y) →
        Filling part before l start out behind next y
    fills-on {out} {next} put on =
        let kept : length out ≡ length buffer = ap length put ∙ length-sets buffer to (entry_here y) in
        record {
          within = (part-passed part at behind m e).within;
          grown = step-grown part before fits g.grown behind m e p;
          whole = still-whole part before fits g.grown behind m e p g.whole;
          room-left = omega (arith, lengths, g.room-left);
          stands = g.stands ∙ ap (sets buffer to) left
              ∙ sets-append buffer to (entry_here y) (completed_by y (wholes_of (drop behind part))) ∙ rw (put, on);
        }

  pub fills-through : Ok None ≡ passed_by (whole_at part at) → buffer ≡ sets l start (completed_by before (wholes_of part))
  unfolding completed
  fills-through e = sym (g.stands ∙ ap (λ (w : Wholes). sets buffer to (completed_by x w)) (part-ended part at e))

  pub fills-length : Ok None ≡ passed_by (whole_at part at) → length buffer ≡ length l
  fills-length e = ap length (fills-through e) ∙ length-sets l start (completed_by before (wholes_of part))

  pub fills-no-bad : (r : ℕ) → Err r ≡ passed_by (whole_at part at) → ⊥
  fills-no-bad r e = false≢true (ap is_whole (sym (part-bad part at r e)) ∙ g.whole)

-- ---- how many bytes the entries have

new-entry-length : (n offset before : ℕ) → length (new_entry (n + 1) offset before) ≡ 8 * ((n + 1) / 64 - n / 64)
unfolding new_entry when◌then◌else◌
new-entry-length n offset before = go (ℕ_discrete ((n + 1) % 64) 0)
  where
    go : Dec ((n + 1) % 64 ≡ 0) → length (new_entry (n + 1) offset before) ≡ 8 * ((n + 1) / 64 - n / 64)
    go (yes p) = rw (eq-eqb ((n + 1) % 64) 0 p) (omega (arith, entry_length offset before))
    go (no p) = rw (ne_eqb ((n + 1) % 64) 0 p) (omega arith)

pub completed-length : (x : Extent) (l : List Entry) → length (completed x l)
    ≡ 8 * ((x.records + length l) / 64 - x.records / 64)
unfolding completed with_record
completed-length x [] = omega arith
completed-length x (e ∷ l) =
    let y = with_record x e in
    length-append (entry_here y) (completed y l)
    ∙ omega (
      arith,
      new-entry-length x.records (x.bytes + size_of e) (x.fallbacks + fallback e),
      completed-length y l,
    )

-- ---- how far many records bring it

pub extent-fold : (x : Extent) (l : List Entry) → foldl with_record x l
    ≡ extent (x.bytes + sizes l) (x.records + length l) (x.fallbacks + fallbacks l)
unfolding with_record sizes fallbacks
extent-fold x [] = rw (add-zero x.bytes, add-zero x.records, add-zero x.fallbacks)
extent-fold x (e ∷ l) =
    let n : x.records + 1 + length l ≡ x.records + suc (length l) = omega arith in
    extent-fold (with_record x e) l ∙ rw (
      add_assoc x.bytes (size_of e) (sizes l),
      n,
      add_assoc x.fallbacks (fallback e) (fallbacks l),
    )

-- ---- what a part tells

module _ (x : Extent) (buffer : List ℕ) where
  part-bad-by : (w : Wholes) (r : ℕ) → Err r ≡ progress_by 0 x w → standing (Err r) buffer ≡ part_by x buffer w
  part-bad-by (reached l used) r e = absurd (let z : ◌≡◌ {A = ℕ} 0 1 = cc in omega arith)
  part-bad-by (stopped n place) r e = let f : r ≡ n = cc in rw f

  -- the entries' bytes by the two counts
  told-by : {C : Type 0} (w : Wholes) (used : ℕ) (after : Extent) → Ok (used, after) ≡ progress_by 0 x w →
      ((l : List Entry) → w ≡ reached l used → after ≡ foldl with_record x l → length (completed x l)
      ≡ 8 * (after.records / 64 - x.records / 64) → C) → C
  told-by (stopped n place) used after e go = absurd (let z : ◌≡◌ {A = ℕ} 0 1 = cc in omega arith)
  told-by (reached l u) used after e go =
      let same : ◌≡◌ {A = ℕ × Extent} (used, after) (0 + u, foldl with_record x l) = cc in
      let f : used ≡ 0 + u = ap (λ p. p.0) same in
      let k : after ≡ foldl with_record x l = ap (λ p. p.1) same in
      let n : after.records ≡ x.records + length l = ap (λ (z : Extent). z.records) (k ∙ extent-fold x l) in
      go l (ap (reached l) (sym (f ∙ zero-add u))) k (completed-length x l
      ∙ ap (λ (m : ℕ). 8 * (m / 64 - x.records / 64)) (sym n))

  part-short-by : (w : Wholes) (used : ℕ) (after : Extent) → Ok (used, after) ≡ progress_by 0 x w →
      length buffer < 8 * (after.records / 64 - x.records / 64) →
      standing (Err 10) buffer ≡ part_by x buffer w
  unfolding put_over
  part-short-by w used after e h =
      told-by w used after e λ l p k n. rw (p, lt-leb (length (completed x l)) (length buffer) (omega arith))

  part-done-by : (w : Wholes) (used : ℕ) (after : Extent) → Ok (used, after) ≡ progress_by 0 x w → (needed : ℕ)
      → needed ≡ 8 * (after.records / 64 - x.records / 64) → needed ≤ length buffer →
      (out : List ℕ) → out ≡ sets buffer 0 (completed_by x w) → standing (Ok (part_built used needed after)) out ≡ part_by x buffer w
  unfolding put_over
  part-done-by w used after e needed f h out p =
      told-by w used after e λ l q k n.
      let fits : length (completed x l) ≤ length buffer = omega arith in
      let size : needed ≡ length (completed x l) = f ∙ sym n in
      let laid : out ≡ laid_over (completed x l) buffer = p ∙ ap (λ (v : Wholes). sets buffer 0 (completed_by x v)) q
      ∙ nothing-laid (completed x l) buffer fits in
      rw (q, le-leb (length (completed x l)) (length buffer) fits, laid, size, k)

-- none is bad, and the entries fit
pub part-whole : (x : Extent) (w : Wholes) (used : ℕ) (after : Extent) → Ok (used, after) ≡ progress_by 0 x w →
    (is_whole w ≡ true) × (length (completed_by x w) ≡ 8 * (after.records / 64 - x.records / 64))
part-whole x w used after e =
    told-by x [] w used after e λ l p k n. (ap is_whole p, ap (λ (v : Wholes). length (completed_by x v)) p ∙ n)

module _ (part : List ℕ) (x : Extent) (buffer : List ℕ) where
  pub part-over : (r : ℕ) → fault r ≡ extent_fault (length part) x → standing (Err r) buffer ≡ part_over part x buffer
  unfolding part_over
  part-over r e = rw (← e)

  module _ (fits : fine ≡ extent_fault (length part) x) where
    pub part-refused : (r : ℕ) → Err r ≡ progress_by 0 x (wholes_of part) → standing (Err r) buffer
        ≡ part_over part x buffer
    unfolding part_over
    part-refused r e = rw (← fits) (part-bad-by x buffer (wholes_of part) r e)

    module _ (used : ℕ) (after : Extent) (e : Ok (used, after) ≡ progress_by 0 x (wholes_of part)) where
      pub part-short : length buffer < 8 * (after.records / 64 - x.records / 64) → standing (Err 10) buffer
          ≡ part_over part x buffer
      unfolding part_over
      part-short h = rw (← fits) (part-short-by x buffer (wholes_of part) used after e h)

      pub part-done : (needed : ℕ) → needed ≡ 8 * (after.records / 64 - x.records / 64) → needed ≤ length buffer →
          (out : List ℕ) → out ≡ sets buffer 0 (completed_by x (wholes_of part)) →
          standing (Ok (part_built used needed after)) out ≡ part_over part x buffer
      unfolding part_over
      part-done needed f h out p = rw (← fits) (part-done-by x buffer (wholes_of part) used after e needed f h out p)

-- what is told of whole records lies within the part and the buffer, and fewer bytes are left than an answer may have
pub record Within (part out : List ℕ) (used n : ℕ) : Type 0 where
  pub within-part : used ≤ length part
  pub few-left : length part < used + longest_answer
  pub within-buffer : n ≤ length out

module _ (part : List ℕ) (x : Extent) (buffer : List ℕ) (used n : ℕ) (after : Extent) (out : List ℕ) where
  by-room : (l : List Entry) (u : ℕ) → wholes_of part ≡ reached l u → Dec (length (completed x l) ≤ length buffer) →
      standing (Ok (part_built used n after)) out ≡ part_by x buffer (reached l u) → Within part out used n
  unfolding put_over
  by-room l u p (no h) e =
      let f = ap (λ (s : Standing (Result PartBuilt ℕ)). s.told)
      (rw (lt-leb (length (completed x l)) (length buffer) (omega arith)) at e) in
      absurd (let z : ◌≡◌ {A = ℕ} 0 1 = cc in omega arith)
  by-room l u p (yes h) e =
      let q = rw (le-leb (length (completed x l)) (length buffer) h) at e in
      let f = ap (λ (s : Standing (Result PartBuilt ℕ)). s.told) q in
      let g = ap (λ (s : Standing (Result PartBuilt ℕ)). length s.contents) q in
      let same : part_built used n after ≡ part_built u (length (completed x l)) (foldl with_record x l) = cc in
      let a : used ≡ u = ap (λ (p : PartBuilt). p.used) same in
      let b : n ≡ length (completed x l) = ap (λ (p : PartBuilt). p.written) same in
      let few = few-behind part p in
      record {
        within-part = omega (arith, few.0);
        few-left = omega (arith, few.1);
        within-buffer = omega (arith, laid-length (completed x l) buffer h);
      }

  by-fault : (f : Fault) (w : Wholes) → wholes_of part ≡ w →
      standing (Ok (part_built used n after)) out
      ≡ unless_fault (λ r. standing (Err r) buffer) f (part_by x buffer w) → Within part out used n
  by-fault (fault r) w p e =
      let f = ap (λ (s : Standing (Result PartBuilt ℕ)). s.told) e in
      absurd (let z : ◌≡◌ {A = ℕ} 0 1 = cc in omega arith)
  by-fault fine (stopped r place) p e =
      let f = ap (λ (s : Standing (Result PartBuilt ℕ)). s.told) e in
      absurd (let z : ◌≡◌ {A = ℕ} 0 1 = cc in omega arith)
  by-fault fine (reached l u) p e = by-room l u p (dec_le (length (completed x l)) (length buffer)) e

  pub part-within : standing (Ok (part_built used n after)) out ≡ part_over part x buffer → Within part out used n
  unfolding part_over
  part-within e = by-fault (extent_fault (length part) x) (wholes_of part) refl e
