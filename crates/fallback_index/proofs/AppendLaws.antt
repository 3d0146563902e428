-- An index that an append brought up to date is the one that a fresh build gives. Assumes nothing.
use Prim.Native.Nat.{ℕ, ◌+◌, ◌%◌, ◌≤◌, ◌<◌}
use native.Mathlib.Omega.{arith}
use native.Mathlib.Decide.{dec_le}
use mathlib.Core.Path.{◌≡◌, refl, sym, ap, ◌∙◌}
use mathlib.Core.Bool.{Bool, true, false}
use mathlib.Core.List.{List, [], ◌∷◌, ◌++◌}
use lib.Dec.{leb, eqb}
use lib.ListN.{length, take, drop, length-append}
use lib.Seq.{take_at, take-length}
use borrow.Author.Tests.{leb-true, le-leb, lt-leb}
use Rattle.std.specs.Prelude.{Ok, Err}
use Rattle.arithmetic.specs.Binary32.{when◌then◌else◌}
use Rattle.admission.specs.Faults.{Fault, fine, fault, must, unless_fault}
use Rattle.admission.proofs.FaultLaws.{must-fine}
use Rattle.answer_records.specs.Replies as said
use Rattle.answer_records.specs.Replies.{Said, answer_in}
use Rattle.answer_logs.specs.Logs.{Entry, outcome, refusal, Records, whole, refused_at}
use Rattle.log_walks.specs.Figures.{sizes, fallback, fallbacks, fallbacks_among}
use Rattle.log_walks.specs.Parts.{records_of}
use Rattle.index_building.specs.Indexes.{greatest, index_length, index_of, laid_over, IndexWritten, Standing, standing, refused_over, put_over, put_index}
use Rattle.index_building.specs.Builds.{extent, built_by, built_up_to, built_over}
use Rattle.fallback_index.specs.Questions.{named_count, head_in, entry_in, stretch_in, question_of, question_in}
use Rattle.fallback_index.specs.Appends.{new_entry_fits, grown_fault, grown, grown_by, updated, update_of, update_in, updated_over, appended_up_to, appended_over}
use Rattle.log_walks.proofs.SplitLaws.{Splits, splits, all-bytes, few, fallbacks-few, records-there, splits-append, alone-outcome, alone-refusal}
use Rattle.index_building.proofs.LengthLaws.{index-length}
use Rattle.index_building.proofs.EntryLaws.{one_more}
use Rattle.fallback_index.proofs.IndexLaws.{count-read, head-there}
use Rattle.fallback_index.proofs.MoreLaws.{index-more, fallbacks-more}
use Rattle.fallback_index.proofs.QuestionLaws.{built_from, count_fits, found_before, answered, built-answers}

-- ---- the numbers of a built index

stretch-none : (log entry : List ℕ) → stretch_in log entry 0 ≡ []
unfolding stretch_in
stretch-none log entry = refl

module _ (log : List ℕ) (rs : List Entry) (t : Splits log rs) (fits : length log ≤ greatest) (new : List ℕ) where
  named_count_lem : named_count (head_in (built_from log rs)) ≡ length rs
  named_count_lem = rw (head-there rs (length log)) (count-read (length log) (length rs) (count_fits log rs t fits))

  end-answered : question_of (length log) (length (built_from log rs)) (head_in (built_from log rs))
      (entry_in (built_from log rs) 0) (entry_in (built_from log rs) (length rs)) []
      (stretch_in log (entry_in (built_from log rs) (length rs)) (length rs)) 0 (length rs)
      ≡ Ok (fallbacks_among 0 (length rs) rs)
  unfolding question_in
  end-answered = rw (stretch-none log (entry_in (built_from log rs) 0)) at (answered log rs t fits 0 (length rs)
      (omega arith) (omega arith))

  update-built : update_in greatest log (built_from log rs) new
      ≡ grown_by greatest (length log + length new) (length rs) (fallbacks rs) (answer_in new)
  unfolding update_in update_of
  update-built = rw (named_count_lem, end-answered, found_before log rs t fits (length rs) (omega arith), take-length rs)

-- ---- an append

either_way : {A : Type 0} (b : Bool) (x : A) → (when b then x else x) ≡ x
unfolding when◌then◌else◌
either_way true x = refl
either_way false x = refl

module _ (log : List ℕ) (rs : List Entry) (t : Splits log rs) (new : List ℕ) (r : Entry) (v : Splits new (r ∷ []))
    (buffer : List ℕ) (n : ℕ) (there : take n buffer ≡ index_of (length log) rs) where
  both : Splits (log ++ new) (rs ++ (r ∷ []))
  both = splits-append t v

  joined : length log + length new ≡ sizes (rs ++ (r ∷ []))
  joined = sym (length-append log new) ∙ sym (all-bytes both)

  bytes-more : index_of (length (log ++ new)) (rs ++ (r ∷ []))
      ≡ updated (length log + length new) (length rs + 1) (fallbacks rs + fallback r) (take n buffer)
  bytes-more = rw (length-append log new, there, ← fallbacks-more rs r)
      (index-more rs r (length log) (length log + length new) joined)

  length_more : length (updated (length log + length new) (length rs + 1) (fallbacks rs + fallback r) (take n buffer))
      ≡ index_length (length rs + 1)
  length_more = ap length (sym bytes-more) ∙ index-length (rs ++ (r ∷ [])) (length (log ++ new)) ∙ ap index_length (one_more rs r)

  put-more : put_index (updated (length log + length new) (length rs + 1) (fallbacks rs + fallback r) (take n buffer)) buffer
      ≡ updated_over buffer n (Ok (extent (length log + length new) (length rs + 1) (fallbacks rs + fallback r)))
  unfolding put_over
  put-more = rw length_more

  built-more : built_over (log ++ new) buffer
      ≡ unless_fault (refused_over buffer) (must (leb (length log + length new) greatest) 4)
      (put_index (updated (length log + length new) (length rs + 1) (fallbacks rs + fallback r) (take n buffer))
      buffer)
  unfolding built_over built_up_to
  built-more = rw (records-there both, bytes-more, length-append log new)

  count_small : length log + length new ≤ greatest → length rs + 1 ≤ greatest
  count_small h = omega (arith, few (rs ++ (r ∷ [])), joined, one_more rs r)

  fallbacks-small : length log + length new ≤ greatest → fallbacks rs + fallback r ≤ greatest
  fallbacks-small h = omega (arith, fallbacks-few (rs ++ (r ∷ [])), joined, fallbacks-more rs r)

  -- a log short enough has no other number over the limit
  short-fine : length log + length new ≤ greatest →
      grown_fault greatest (length log + length new) (length rs + 1) (fallbacks rs + fallback r) ≡ fine
  unfolding grown_fault new_entry_fits
  short-fine h =
      rw (
        le-leb (length log + length new) greatest h,
        le-leb (length rs + 1) greatest (count_small h),
        le-leb (fallbacks rs + fallback r) greatest (fallbacks-small h),
        either_way (eqb ((length rs + 1) % 64) 0) true,
      )

  long-fault : greatest < length log + length new →
      grown_fault greatest (length log + length new) (length rs + 1) (fallbacks rs + fallback r) ≡ fault 4
  unfolding grown_fault
  long-fault h = rw (lt-leb (length log + length new) greatest h)

  updated-built : updated_over buffer n (grown greatest (length log + length new) (length rs + 1)
      (fallbacks rs + fallback r)) ≡ built_over (log ++ new) buffer
  unfolding grown
  updated-built = go (dec_le (length log + length new) greatest)
    where
      go : Dec (length log + length new ≤ greatest) →
          updated_over buffer n (grown greatest (length log + length new) (length rs + 1) (fallbacks rs + fallback r))
          ≡ built_over (log ++ new) buffer
      go (yes p) = rw (short-fine p) (sym (built-more ∙ rw (le-leb (length log + length new) greatest p) put-more))
      go (no p) =
          let q : greatest < length log + length new = omega arith in
          rw (long-fault q) (sym (built-more ∙ rw (lt-leb (length log + length new) greatest q)))

-- ---- an index that a build wrote

unless-told : {C : Type 0} (buffer : List ℕ) (f : Fault) (s : Standing IndexWritten) (n : ℕ) (c : List ℕ) →
    unless_fault (refused_over buffer) f s ≡ standing (Ok n) c →
    (f ≡ fine → s ≡ standing (Ok n) c → C) → C
unless-told buffer fine s n c e go = go refl e
unless-told buffer (fault r) s n c e go = absurd (let t : ◌≡◌ {A = IndexWritten} (Err r) (Ok n) =
    ap (λ (x : Standing IndexWritten). x.told) e in let z : ◌≡◌ {A = ℕ} 0 1 = cc in omega arith)

-- what a build that was not refused tells: the log's records, that its length fits, and that the index stands at the
-- buffer's start
pub record Built (log : List ℕ) (n : ℕ) (buffer : List ℕ) : Type 0 where
  pub replies : List Entry
  pub split : records_of log ≡ whole replies
  pub fits : length log ≤ greatest
  pub there : take n buffer ≡ index_of (length log) replies
  pub room : n ≤ length buffer

put-told : (log bytes buffer : List ℕ) (n : ℕ) (c : List ℕ) → put_index bytes buffer ≡ standing (Ok n) c →
    (take n c ≡ bytes) × (n ≤ length c)
unfolding put_over laid_over
put-told log bytes buffer n c e =
    unless-told buffer (must (leb (length bytes) (length buffer)) 10) _ n c e λ f g.
    let t : ◌≡◌ {A = IndexWritten} (Ok (length bytes)) (Ok n) = ap (λ (x : Standing IndexWritten). x.told) g in
    let l : length bytes ≡ n = cc in
    let h : bytes ++ drop (length bytes) buffer ≡ c = ap (λ (x : Standing IndexWritten). x.contents) g in (
      sym (ap (take n) h) ∙ take_at bytes (drop (length bytes) buffer) n l,
      omega (
        arith,
        ap length (sym h)
            ∙ length-append bytes (drop (length bytes) buffer),
      ),
    )

built-by : (log buffer : List ℕ) (n : ℕ) (c : List ℕ) (q : Records) → records_of log ≡ q → built_by greatest log buffer q
    ≡ standing (Ok n) c → Built log n c
built-by log buffer n c (refused_at r place) p e = absurd (let t : ◌≡◌ {A = IndexWritten} (Err r) (Ok n) =
    ap (λ (x : Standing IndexWritten). x.told) e in let z : ◌≡◌ {A = ℕ} 0 1 = cc in omega arith)
built-by log buffer n c (whole rs) p e =
    unless-told buffer (must (leb (length log) greatest) 4) _ n c e λ f g.
    let put = put-told log (index_of (length log) rs) buffer n c g in
    record {
      replies = rs;
      split = p;
      fits = leb-true (length log) greatest (must-fine (leb (length log) greatest) 4 f);
      there = put.0;
      room = put.1;
    }

pub built : (log buffer : List ℕ) (n : ℕ) (c : List ℕ) → built_over log buffer ≡ standing (Ok n) c → Built log n c
unfolding built_over built_up_to
built log buffer n c e = built-by log buffer n c (records_of log) refl e

-- ---- the two promises

-- "Appending a record updates such an index to what a fresh build would give": bytes, length and refusals
appended-by : (log new buffer : List ℕ) (n : ℕ) → (b : Built log n buffer) → (q : Said) → answer_in new ≡ q →
    ((k : ℕ) → q ≡ said.unreadable k → ⊥) →
    updated_over buffer n (grown_by greatest (length log + length new) (length b.replies) (fallbacks b.replies) q)
    ≡ built_over (log ++ new) buffer
appended-by log new buffer n b (said.outcome a) p good =
    updated-built log b.replies (splits log b.replies b.split) new (outcome a) (alone-outcome new a p) buffer n
    b.there
appended-by log new buffer n b (said.refusal m) p good =
    updated-built log b.replies (splits log b.replies b.split) new (refusal m) (alone-refusal new m p) buffer n
    b.there
appended-by log new buffer n b (said.unreadable k) p good = absurd (good k refl)

pub appended-built : (log new buffer : List ℕ) (n : ℕ) → Built log n buffer →
    ((k : ℕ) → answer_in new ≡ said.unreadable k → ⊥) → appended_over log buffer n new ≡ built_over (log ++ new) buffer
unfolding appended_over appended_up_to
appended-built log new buffer n b good =
    rw (
      le-leb n (length buffer) b.room,
      b.there,
      update-built log b.replies (splits log b.replies b.split)
          b.fits new,
    )
    (appended-by log new buffer n b (answer_in new) refl good)

-- a question to the index that a build wrote is answered as the full walk does
pub build-answers : (log buffer : List ℕ) (n : ℕ) (b : Built log n buffer) (i j : ℕ) → i ≤ j → j ≤ length b.replies →
    question_in log (take n buffer) i j ≡ Ok (fallbacks_among i j b.replies)
build-answers log buffer n b i j ordered h = rw b.there (built-answers log b.replies b.split b.fits i j ordered h)
