-- A build of a log that is lent whole, in the code's steps. Assumes nothing.
use Prim.Native.Nat.{ℕ, ◌+◌, ◌*◌, ◌≤◌, ◌<◌}
use native.Mathlib.Omega.{arith}
use native.Mathlib.Nat.{zero-add, add-zero}
use mathlib.Core.Path.{◌≡◌, refl, sym, ap, ◌∙◌}
use mathlib.Core.Bool.{true}
use mathlib.Core.List.{List, [], ◌∷◌, ◌++◌, foldl, append_assoc, append-nil}
use lib.Dec.{eqb, leb}
use lib.ListN.{length, length-append}
use lib.Seq.{sets}
use borrow.Author.Tests.{lt-ltb, le-ltb, le-leb, lt-leb, leb-true}
use Rattle.std.specs.Prelude.{Ok, Err}
use Rattle.arithmetic.specs.Binary32.{when◌then◌else◌}
use Rattle.admission.specs.Faults.{fine, fault, must, unless_fault}
use Rattle.admission.proofs.FaultLaws.{⊳-fine, must-fine}
use Rattle.answer_logs.specs.Logs.{Entry, Records, whole, refused_at}
use Rattle.answer_logs.specs.Parts.{Wholes, reached, stopped}
use Rattle.log_walks.specs.Figures.{fallback, fallbacks, size_of, sizes}
use Rattle.log_walks.specs.Parts.{records_of, is_whole, wholes_of}
use Rattle.log_walks.proofs.SplitLaws.{few, sizes-append, fallbacks-append}
use Rattle.log_walks.proofs.PartLaws.{measures, few-behind, tells, tells_part, tells-wholes}
use Rattle.index_building.specs.declared.Extent.{Extent}
use Rattle.index_building.specs.Indexes.{index_length, entries_for, entry_with, entry_of, entries, head, start_of, new_entry, index_of, IndexWritten, Standing, standing, refused_over, laid_over, put_over, put_index}
use Rattle.index_building.specs.Builds.{built_by, built_up_to, extent, at_start, with_record, entry_here, completed, most64, extent_fault, completed_by, Progress, progress_by, end_fault, end_up_to}
use Rattle.index_building.proofs.LengthLaws.{start-length, index-length}
use Rattle.index_building.proofs.EntryLaws.{one_more, entries-more}
use Rattle.index_building.proofs.LaidLaws.{laid-sets, nothing-laid}
use Rattle.index_building.proofs.BuildLaws.{extent-fold}

-- ---- the index is its start, and behind it the entries that the records complete

-- all that was read
abbrev extent_of : List Entry → Extent
extent_of p = extent (sizes p) (length p) (fallbacks p)

extent-more : (p : List Entry) (e : Entry) → extent_of (p ++ (e ∷ [])) ≡ with_record (extent_of p) e
unfolding with_record sizes fallbacks
extent-more p e = rw (
  sizes-append p (e ∷ []),
  fallbacks-append p (e ∷ []),
  one_more p e,
  add-zero (size_of e),
  add-zero (fallback e),
)

abbrev all_entries : List Entry → List ℕ
all_entries p = entries p 0 (entries_for (length p))

entries-completed : (p l : List Entry) → all_entries (p ++ l) ≡ all_entries p ++ completed (extent_of p) l
unfolding completed
entries-completed p [] = ap all_entries (append-nil p) ∙ sym (append-nil (all_entries p))
entries-completed p (e ∷ l) =
    let q = p ++ (e ∷ []) in
    let old = all_entries p in
    let new = new_entry (length p + 1) (sizes q) (fallbacks q) in
    ap all_entries (sym (append_assoc p (e ∷ []) l)) ∙ entries-completed q l
    ∙ ap (λ (x : List ℕ). x ++ completed (extent_of q) l) (ap (λ (n : ℕ). entries q 0 (entries_for n)) (one_more p e)
    ∙ entries-more p e)
    ∙ append_assoc old new (completed (extent_of q) l)
    ∙ ap (λ (n : ℕ). old ++ (new_entry n (sizes q) (fallbacks q) ++ completed (extent_of q) l)) (sym (one_more p e))
    ∙ ap (λ (x : Extent). old ++ (entry_here x ++ completed x l)) (extent-more p e)

pub index-completed : (log_length : ℕ) (l : List Entry) → index_of log_length l ≡ start_of log_length (length l) ++ completed at_start l
unfolding index_of start_of entries entry_of sizes fallbacks
index-completed log_length l =
    ap (λ (x : List ℕ). head log_length (length l) ++ x) (entries-completed [] l
    ∙ ap (λ (x : List ℕ). x ++ completed at_start l) (append-nil (entry_with 0 0)))
    ∙ sym (append_assoc (head log_length (length l)) (entry_with 0 0) (completed at_start l))

-- ---- what a build tells, by the records as far as whole ones reach

whole-used : (x : Extent) (l : List Entry) (used u : ℕ) → Ok (used, x) ≡ progress_by 0 at_start (reached l u) → used ≡ 0 + u
whole-used x l used u e =
    let same : ◌≡◌ {A = ℕ × Extent} (used, x) (0 + u, foldl with_record at_start l) = cc in ap (λ p. p.0) same

module _ (most : ℕ) (log buffer : List ℕ) where
  abbrev from_records : List Entry → Standing IndexWritten
  from_records l = unless_fault (refused_over buffer) (must (leb (length log) most) 4) (put_index (index_of (length log) l) buffer)

  by-records : (q : Records) → built_by most log buffer q ≡ tells from_records (refused_over buffer) q
  by-records (whole l) = refl
  by-records (refused_at n place) = refl

  built-wholes : built_up_to most log buffer ≡ tells_part from_records (refused_over buffer) (length log) (wholes_of log)
  unfolding built_up_to
  built-wholes = by-records (records_of log) ∙ tells-wholes (refused_over buffer) from_records log

  bad-by : (w : Wholes) (r : ℕ) → Err r ≡ progress_by 0 at_start w → refused_over buffer r
      ≡ tells_part from_records (refused_over buffer) (length log) w
  bad-by (reached l used) r e = absurd (let z : ◌≡◌ {A = ℕ} 0 1 = cc in omega arith)
  bad-by (stopped n place) r e = let f : r ≡ n = cc in rw f

  pub build-bad : (r : ℕ) → Err r ≡ progress_by 0 at_start (wholes_of log) → standing (Err r) buffer
      ≡ built_up_to most log buffer
  build-bad r e = bad-by (wholes_of log) r e ∙ sym built-wholes

  left_by : (w : Wholes) (used : ℕ) (x : Extent) → Ok (used, x) ≡ progress_by 0 at_start w → used < length log →
      refused_over buffer 2 ≡ tells_part from_records (refused_over buffer) (length log) w
  unfolding when◌then◌else◌
  left_by (stopped n place) used x e h = absurd (let z : ◌≡◌ {A = ℕ} 0 1 = cc in omega arith)
  left_by (reached l u) used x e h = let f = whole-used x l used u e in rw (lt-ltb u (length log) (omega arith))

  pub build-left : (used : ℕ) (x : Extent) → Ok (used, x) ≡ progress_by 0 at_start (wholes_of log) →
      used < length log → standing (Err 2) buffer ≡ built_up_to most log buffer
  build-left used x e h = left_by (wholes_of log) used x e h ∙ sym built-wholes

-- what nothing has, a log of a machine fits behind
pub start_fits : (n : ℕ) → n ≤ most64 → extent_fault n at_start ≡ fine
unfolding extent_fault
start_fits n h = rw (zero-add n, le-leb n most64 h)

ends_by : (log : List ℕ) (used : ℕ) (x : Extent) (w : Wholes) → wholes_of log ≡ w → Ok (used, x)
    ≡ progress_by 0 at_start w → length log ≤ used → progress_by 0 at_start w ≡ Ok (length log, x)
ends_by log used x (stopped n place) p e h = absurd (let z : ◌≡◌ {A = ℕ} 0 1 = cc in omega arith)
ends_by log used x (reached l u) p e h =
    let f = whole-used x l used u e in
    let same : used ≡ length log = omega (arith, (few-behind log p).0) in
    let there : ℕ → Progress = λ n. Ok (n, x) in
    sym e ∙ ap there same

-- records that leave no byte reach the log's end
pub ends_there : (log : List ℕ) (used : ℕ) (x : Extent) → Ok (used, x) ≡ progress_by 0 at_start (wholes_of log) →
    length log ≤ used → progress_by 0 at_start (wholes_of log) ≡ Ok (length log, x)
ends_there log used x e h = ends_by log used x (wholes_of log) refl e h

-- a log whose records reach its end
pub record Reached (log : List ℕ) (x : Extent) : Type 0 where
  pub list : List Entry
  pub there : wholes_of log ≡ reached list (length log)
  pub extends : x ≡ extent (length log) (length list) (fallbacks list)

reached-by : (log : List ℕ) (x : Extent) (w : Wholes) → wholes_of log ≡ w → progress_by 0 at_start w
    ≡ Ok (length log, x) → Reached log x
reached-by log x (stopped n place) p e = absurd (let z : ◌≡◌ {A = ℕ} 0 1 = cc in omega arith)
reached-by log x (reached l u) p e =
    let same : ◌≡◌ {A = ℕ × Extent} (0 + u, foldl with_record at_start l) (length log, x) = cc in
    let g : u ≡ length log = sym (zero-add u) ∙ ap (λ p. p.0) same in
    let k : foldl with_record at_start l ≡ x = ap (λ p. p.1) same in
    let m = measures log p in
    let bytes : 0 + sizes l ≡ length log = omega (arith, m.bytes) in
    record {
      list = l;
      there = p ∙ ap (reached l) g;
      extends = sym k ∙ extent-fold at_start l ∙ rw (bytes, zero-add (length l), zero-add (fallbacks l));
    }

pub reached-end : (log : List ℕ) (x : Extent) → progress_by 0 at_start (wholes_of log) ≡ Ok (length log, x) →
    Reached log x
reached-end log x e = reached-by log x (wholes_of log) refl e

module _ (most : ℕ) (log buffer : List ℕ) (x : Extent) (w : Reached log x) where
  bytes-told : x.bytes ≡ length log
  bytes-told = ap (λ (y : Extent). y.bytes) w.extends

  records-told : x.records ≡ length w.list
  records-told = ap (λ (y : Extent). y.records) w.extends

  pub few-records : 4 * x.records ≤ x.bytes
  few-records = omega (arith, few w.list, (measures log w.there).bytes, bytes-told, records-told)

  told : built_up_to most log buffer ≡ from_records most log buffer w.list
  unfolding when◌then◌else◌
  told = built-wholes most log buffer ∙ rw (w.there, le-ltb (length log) (length log) (omega arith))

  pub build-over : most < x.bytes → standing (Err 4) buffer ≡ built_up_to most log buffer
  build-over h = sym (told ∙ rw (lt-leb (length log) most (omega (arith, bytes-told))))

  needed : length (index_of (length log) w.list) ≡ index_length x.records
  needed = index-length w.list (length log) ∙ ap index_length (sym records-told)

  module _ (fits : x.bytes ≤ most) where
    pub build-short : length buffer < index_length x.records → standing (Err 10) buffer ≡ built_up_to most log buffer
    unfolding put_over
    build-short h = sym (told ∙ rw (
      le-leb (length log) most (omega (arith, bytes-told)),
      lt-leb (length (index_of (length log) w.list)) (length buffer) (omega (arith, needed)),
    ))

    abbrev rest : List ℕ
    rest = completed_by at_start (wholes_of log)

    whole-index : start_of x.bytes x.records ++ rest ≡ index_of (length log) w.list
    whole-index = sym (index-completed (length log) w.list ∙ rw (← bytes-told, ← records-told, w.there))

    pub rest-length : 21 + length rest ≡ index_length x.records
    rest-length = omega (
      arith,
      start-length x.bytes x.records,
      sym (length-append (start_of x.bytes x.records) rest) ∙ ap length whole-index ∙ needed,
    )

    pub rest-whole : is_whole (wholes_of log) ≡ true
    rest-whole = ap is_whole w.there

    pub build-done : index_length x.records ≤ length buffer → (n : ℕ) → n ≡ index_length x.records →
        (m out : List ℕ) → m ≡ sets buffer 0 (start_of x.bytes x.records) → out ≡ sets m 21 rest →
        standing (Ok n) out ≡ built_up_to most log buffer
    unfolding put_over
    build-done room n size m out e f =
        let first = start_of x.bytes x.records in
        let laid : out ≡ laid_over (index_of (length log) w.list) buffer =
        f ∙ ap (λ (v : List ℕ). sets v 21 rest) (e
        ∙ nothing-laid first buffer (omega (arith, start-length x.bytes x.records, rest-length)))
        ∙ laid-sets first buffer (omega (arith, start-length x.bytes x.records, rest-length)) rest 21
        (sym (start-length x.bytes x.records)) (omega (
          arith,
          start-length x.bytes x.records,
          rest-length,
        ))
        ∙ ap (λ (v : List ℕ). laid_over v buffer) whole-index in
        sym (told ∙ rw (
          le-leb (length log) most (omega (arith, bytes-told)),
          le-leb (length (index_of (length log) w.list)) (length buffer) (omega (arith, needed)),
          ← laid,
          needed,
          ← size,
        ))

-- ---- the end of a log that came in parts

module _ (most left : ℕ) (x : Extent) (buffer : List ℕ) where
  pub end_refused : (r : ℕ) → fault r ≡ end_fault most left x → standing (Err r) buffer ≡ end_up_to most left x buffer
  unfolding end_up_to
  end_refused r e = rw (← e)

  module _ (e : fine ≡ end_fault most left x) where
    pub end_fits : (x.bytes ≤ most) × (x.records ≤ most)
    unfolding end_fault
    end_fits =
        let a = ⊳-fine (must (eqb left 0) 2) (sym e) in
        let b = ⊳-fine (must (leb x.bytes most) 4) a.1 in
        (leb-true _ _ (must-fine _ 4 b.0), leb-true _ _ (must-fine _ 4 b.1))

    pub end_short : length buffer < 21 → standing (Err 10) buffer ≡ end_up_to most left x buffer
    unfolding end_up_to put_over
    end_short h = rw (
      ← e,
      lt-leb (length (start_of x.bytes x.records)) (length buffer)
          (omega (arith, start-length x.bytes x.records)),
    )

    pub end-done : 21 ≤ length buffer → (out : List ℕ) → out ≡ sets buffer 0 (start_of x.bytes x.records) →
        standing (Ok 21) out ≡ end_up_to most left x buffer
    unfolding end_up_to put_over
    end-done h out p =
        let first = start_of x.bytes x.records in
        let size = start-length x.bytes x.records in
        rw (← e, le-leb (length first) (length buffer) (omega arith), p ∙ nothing-laid first buffer (omega arith), size)
