-- However a log is cut into reads, the entries of its parts and the index's start are what a build of the whole log writes.
-- Assumes nothing.
use Prim.Native.Nat.{ℕ, ◌+◌, ◌-◌, ◌*◌, ◌/◌, ◌≤◌, ◌<◌}
use native.Mathlib.Omega.{arith}
use native.Mathlib.Decide.{dec_le}
use native.Mathlib.Nat.{zero-add}
use mathlib.Core.Path.{◌≡◌, refl, sym, ap, ◌∙◌}
use mathlib.Core.List.{List, [], ◌∷◌, ◌++◌, foldl, foldl-append, append_assoc, append-nil}
use lib.Dec.{ltb, eqb, leb}
use lib.ListN.{length, take, drop, length-append, length-drop}
use lib.Seq.{take_at}
use borrow.Author.Tests.{le-leb, lt-leb, lt-ltb, ne_eqb}
use Rattle.std.specs.Prelude.{Result, Ok, Err}
use Rattle.arithmetic.specs.Binary32.{when◌then◌else◌}
use Rattle.arithmetic.proofs.Lists.{All, none, more}
use Rattle.admission.specs.Faults.{Fault, fine, fault, must, ◌⊳◌, unless_fault}
use Rattle.answer_records.specs.Answers.{longest_answer}
use Rattle.answer_logs.specs.Logs.{Entry, Records, whole, refused_at, ended}
use Rattle.answer_logs.specs.Parts.{found_whole, Wholes, reached, stopped, wholes_from}
use Rattle.log_walks.specs.Figures.{fallbacks, sizes}
use Rattle.log_walks.specs.Parts.{records_of, unplaced, wholes_of}
use Rattle.log_walks.proofs.SplitLaws.{splits, all-bytes, few, fallbacks-few}
use Rattle.log_walks.proofs.PartLaws.{measures, few-behind, none_found, none-there, tells, tells_part, tells-same, tells-wholes, cut-tells, cut-bad}
use Rattle.index_building.specs.declared.Extent.{Extent}
use Rattle.index_building.specs.declared.PartBuilt.{PartBuilt}
use Rattle.index_building.specs.Indexes.{greatest, start_of, index_of, IndexWritten, Standing, laid_over, put_over, put_index, refused_over}
use Rattle.index_building.specs.Builds.{built_by, built_up_to, built_over, extent, at_start, with_record, entry_here, completed, most64, extent_fault, part_by, part_over, end_fault, end_up_to, end_over}
use Rattle.index_building.proofs.LengthLaws.{start-length}
use Rattle.index_building.proofs.BuildLaws.{completed-length, extent-fold}
use Rattle.index_building.proofs.WholeLaws.{index-completed}

-- what a stream of parts comes to: the index's bytes, or the number of a refusal
pub data Index : Type 0 where
  written : List ℕ → Index
  unwritten : ℕ → Index

-- it is put into a buffer as a build puts it
abbrev pub put_of : List ℕ → Index → Standing IndexWritten
put_of buffer (written bytes) = put_index bytes buffer
put_of buffer (unwritten r) = refused_over buffer r

-- ---- reads, each behind what the last part left; `room` is lent at each of them

-- the entries that a part wrote, and the way on
abbrev on_part : (ℕ → List ℕ → Extent → Index) → Result PartBuilt ℕ → List ℕ → Index
on_part go (Err r) c = unwritten r
on_part go (Ok p) c = go p.used (take p.written c) p.extent

abbrev on_end : List ℕ → IndexWritten → List ℕ → Index
on_end out (Err r) c = unwritten r
on_end out (Ok n) c = written (take n c ++ out)

abbrev pub streamed : List ℕ → List ℕ → Extent → List ℕ → List (List ℕ) → Index
streamed room left x out [] = on_end out (end_over left x room).told (end_over left x room).contents
streamed room left x out (r ∷ reads) =
    on_part (λ used entries y. streamed room (drop used (left ++ r)) y (out ++ entries) reads)
    (part_over (left ++ r) x room).told (part_over (left ++ r) x room).contents

abbrev pub together : List (List ℕ) → List ℕ
together [] = []
together (r ∷ reads) = r ++ together reads

-- room for the entries of a read and of what was left before it
pub record Roomy (room r : List ℕ) : Type 0 where
  pub enough : 8 * ((length r + longest_answer) / 256 + 1) ≤ length room

-- ---- what the records tell on top of what was read

abbrev finished : Extent → List ℕ → Index
finished x out = unless_fault unwritten (end_fault greatest 0 x) (written (start_of x.bytes x.records ++ out))

abbrev on_top : Extent → List ℕ → Records → Index
on_top x out q = tells (λ l. finished (foldl with_record x l) (out ++ completed x l)) unwritten q

completed-append : (x : Extent) (l m : List Entry) → completed x (l ++ m) ≡ completed x l ++ completed (foldl with_record x l) m
unfolding completed
completed-append x [] m = refl
completed-append x (e ∷ l) m =
    let y = with_record x e in
    ap (λ (v : List ℕ). entry_here y ++ v) (completed-append y l m)
    ∙ sym (append_assoc (entry_here y) (completed y l) (completed (foldl with_record y l) m))

top-append : (x : Extent) (out : List ℕ) (l m : List Entry) →
    finished (foldl with_record x (l ++ m)) (out ++ completed x (l ++ m))
    ≡ finished (foldl with_record (foldl with_record x l) m) ((out ++ completed x l)
    ++ completed (foldl with_record x l) m)
top-append x out l m =
    ap (λ (y : Extent). finished y (out ++ completed x (l ++ m))) (foldl-append with_record x l m)
    ∙ ap (λ (v : List ℕ). finished (foldl with_record (foldl with_record x l) m) v)
    (ap (λ (v : List ℕ). out ++ v) (completed-append x l m)
    ∙ sym (append_assoc out (completed x l) (completed (foldl with_record x l) m)))

-- ---- what was read, and what is left

-- numbers that so much of a log gave, with so many bytes to come
record Kept (x : Extent) (n : ℕ) : Type 0 where
  to-come : x.bytes + n ≤ most64
  records-few : x.records ≤ x.bytes
  fallbacks-fewer : x.fallbacks ≤ x.bytes

kept-fits : (x : Extent) (n k : ℕ) → Kept x n → k ≤ n → extent_fault k x ≡ fine
unfolding extent_fault
kept-fits x n k g h =
    rw (
      le-leb (x.bytes + k) most64 (omega (arith, g.to-come)),
      le-leb (x.records + k) most64 (omega (arith, g.to-come, g.records-few)),
      le-leb (x.fallbacks + k) most64 (omega (arith, g.to-come, g.fallbacks-fewer)),
    )

kept_on : (x : Extent) (n used : ℕ) (l : List Entry) → used ≡ sizes l → used ≤ n → Kept x n →
    Kept (foldl with_record x l) (n - used)
kept_on x n used l e h g =
    rw (extent-fold x l) (record {
      to-come = omega (arith, g.to-come);
      records-few = omega (arith, g.records-few, few l);
      fallbacks-fewer = omega (arith, g.fallbacks-fewer, fallbacks-few l);
    })

-- ---- the end

end-told : (x : Extent) (room out : List ℕ) → 21 ≤ length room → (left : List ℕ) (f : Fault) →
    end_fault greatest (length left) x ≡ f →
    on_end out (end_over left x room).told (end_over left x room).contents
    ≡ unless_fault unwritten f (written (start_of x.bytes x.records ++ out))
unfolding end_over end_up_to put_over laid_over
end-told x room out h left (fault r) e = rw e
end-told x room out h left fine e =
    let first = start_of x.bytes x.records in
    let size = start-length x.bytes x.records in
    rw (e, le-leb (length first) (length room) (omega arith))
    (ap (λ (v : List ℕ). written (v ++ out)) (take_at first (drop (length first) room) (length first) refl))

at-end : (x : Extent) (out left : List ℕ) → found_whole left ≡ ended → on_top x out (records_of left)
    ≡ unless_fault unwritten (end_fault greatest (length left) x) (written (start_of x.bytes x.records ++ out))
unfolding end_fault when◌then◌else◌ completed
at-end x out left e = tells-wholes unwritten _ left ∙ ap (tells_part _ unwritten (length left)) (none-there left e) ∙ go left
  where
    go : (s : List ℕ) → (when ltb 0 (length s) then unwritten 2 else finished x (out ++ []))
        ≡ unless_fault unwritten (must (eqb (length s) 0) 2 ⊳ must (leb x.bytes greatest) 4 ⊳ must
        (leb x.records greatest) 4) (written (start_of x.bytes x.records ++ out))
    go [] = ap (finished x) (append-nil out)
    go (y ∷ s) = rw (lt-ltb 0 (length (y ∷ s)) (omega arith), ne_eqb (length (y ∷ s)) 0 (λ z. omega arith))

-- ---- a part

unplaced-place : (w : Wholes) {n place : ℕ} → unplaced w ≡ stopped n place → place ≡ 0
unplaced-place (reached l used) e = absurd (let z : ◌≡◌ {A = ℕ} 0 1 = cc in omega arith)
unplaced-place (stopped m p) e = cc

no_place : (s : List ℕ) {n place : ℕ} → wholes_of s ≡ stopped n place → place ≡ 0
unfolding wholes_of
no_place s e = unplaced-place (wholes_from (length s) 0 s) e

entries_fit : (x : Extent) (l : List Entry) (n : ℕ) → sizes l ≤ n → length (completed x l) ≤ 8 * (n / 256 + 1)
entries_fit x l n h = omega (arith, completed-length x l, few l)

module _ (room : List ℕ) (wide : 21 ≤ length room) where
  abbrev Tell : List (List ℕ) → Type 0
  Tell reads = (left : List ℕ) (x : Extent) (out : List ℕ) → found_whole left ≡ ended → length left < longest_answer →
      Kept x (length (left ++ together reads)) →
      streamed room left x out reads ≡ on_top x out (records_of (left ++ together reads))

  module _ (x : Extent) (s : List ℕ) (fits : extent_fault (length s) x ≡ fine) (enough : 8 * (length s / 256 + 1)
      ≤ length room) (go : ℕ → List ℕ → Extent → Index) where
    part-told : on_part go (part_over s x room).told (part_over s x room).contents
        ≡ on_part go (part_by x room (wholes_of s)).told (part_by x room (wholes_of s)).contents
    unfolding part_over
    part-told = rw fits

    part-stopped : (r : ℕ) → wholes_of s ≡ stopped r 0 →
        on_part go (part_over s x room).told (part_over s x room).contents ≡ unwritten r
    part-stopped r e = part-told ∙ rw e

    part-reached : (l : List Entry) (used : ℕ) → wholes_of s ≡ reached l used →
        on_part go (part_over s x room).told (part_over s x room).contents
        ≡ go used (completed x l) (foldl with_record x l)
    unfolding put_over laid_over
    part-reached l used e =
        let m = measures s e in
        let all = completed x l in
        let short : length all ≤ length room =
        omega (arith, entries_fit x l (length s) (omega (arith, m.bytes, (few-behind s e).0))) in
        part-told ∙ rw (e, le-leb (length all) (length room) short)
        (ap (λ (v : List ℕ). go used v (foldl with_record x l))
        (take_at all (drop (length all) room) (length all) refl))

  module _ (left r : List ℕ) (reads : List (List ℕ)) (x : Extent) (out : List ℕ) (waiting : length left < longest_answer)
      (roomy : Roomy room r)
      (kept : Kept x (length (left ++ (r ++ together reads)))) (rest : Tell reads) where
    abbrev s : List ℕ
    s = left ++ r

    lengths : length (left ++ (r ++ together reads)) ≡ length s + length (together reads)
    lengths = ap length (sym (append_assoc left r (together reads))) ∙ length-append s (together reads)

    fits : extent_fault (length s) x ≡ fine
    fits = kept-fits x (length (left ++ (r ++ together reads))) (length s) kept (omega (arith, lengths))

    enough : 8 * (length s / 256 + 1) ≤ length room
    enough = omega (arith, roomy.enough, length-append left r)

    abbrev onward : ℕ → List ℕ → Extent → Index
    onward used entries y = streamed room (drop used s) y (out ++ entries) reads

    turn : (w : Wholes) → wholes_of s ≡ w → on_part onward (part_over s x room).told (part_over s x room).contents
        ≡ on_top x out (records_of (s ++ together reads))
    turn (stopped n place) e =
        let f : wholes_of s ≡ stopped n 0 = e ∙ ap (stopped n) (no_place s e) in
        part-stopped x s fits enough onward n f ∙ sym (cut-bad unwritten _ s (together reads) f)
    turn (reached l used) e =
        let m = measures s e in
        let f = few-behind s e in
        let y = foldl with_record x l in
        let behind = drop used s ++ together reads in
        let less : length (left ++ (r ++ together reads)) - used ≡ length behind =
        omega (arith, lengths, length-append (drop used s) (together reads), length-drop used s) in
        part-reached x s fits enough onward l used e
        ∙ rest (drop used s) y (out ++ completed x l) m.behind (omega (arith, length-drop used s))
        (rw (← less) (kept_on x (length (left ++ (r ++ together reads))) used l m.bytes
        (omega (arith, lengths)) kept))
        ∙ sym (tells-same unwritten _ _ (top-append x out l) (records_of behind))
        ∙ sym (cut-tells unwritten _ s (together reads) e)

  stream-told : (reads : List (List ℕ)) → All (Roomy room) reads → Tell reads
  stream-told [] none left x out nothing waiting kept =
      end-told x room out wide left (end_fault greatest (length left) x) refl ∙ sym (at-end x out left nothing)
      ∙ ap (λ (v : List ℕ). on_top x out (records_of v)) (sym (append-nil left))
  stream-told (r ∷ reads) (more p ps) left x out nothing waiting kept =
      turn left r reads x out waiting p kept (stream-told reads ps) (wholes_of (left ++ r)) refl
      ∙ ap (λ (v : List ℕ). on_top x out (records_of v)) (append_assoc left r (together reads))

-- ---- from the start on

-- a log short enough has no record too many
ends : (log buffer : List ℕ) (l : List Entry) → 4 * length l ≤ length log → Dec (length log ≤ greatest) →
    put_of buffer (finished (extent (length log) (length l) (fallbacks l)) (completed at_start l))
    ≡ unless_fault (refused_over buffer) (must (leb (length log) greatest) 4)
    (put_index (index_of (length log) l) buffer)
unfolding end_fault
ends log buffer l h (yes p) = rw (
  le-leb (length log) greatest p,
  le-leb (length l) greatest (omega arith),
  index-completed (length log) l,
)
ends log buffer l h (no p) = rw (lt-leb (length log) greatest (omega arith))

started : (log buffer : List ℕ) (q : Records) → records_of log ≡ q → put_of buffer (on_top at_start [] q)
    ≡ built_by greatest log buffer q
started log buffer (refused_at r place) e = refl
started log buffer (whole l) e =
    let t = splits log l e in
    let size : 0 + sizes l ≡ length log = omega (arith, all-bytes t) in
    let x : foldl with_record at_start l ≡ extent (length log) (length l) (fallbacks l) = extent-fold at_start l
    ∙ rw (size, zero-add (length l), zero-add (fallbacks l)) in
    ap (λ (y : Extent). put_of buffer (finished y ([] ++ completed at_start l))) x
    ∙ ends log buffer l (omega (arith, few l, all-bytes t)) (dec_le (length log) greatest)

pub any-reads : (room : List ℕ) → 21 ≤ length room → (reads : List (List ℕ)) → All (Roomy room) reads →
    length (together reads) ≤ most64 →
    (buffer : List ℕ) → put_of buffer (streamed room [] at_start [] reads) ≡ built_over (together reads) buffer
unfolding built_over built_up_to
any-reads room wide reads roomy short buffer =
    ap (put_of buffer) (stream-told room wide reads roomy [] at_start [] none_found (omega arith) (record {
      to-come = omega arith;
      records-few = omega arith;
      fallbacks-fewer = omega arith;
    }))
    ∙ started (together reads) buffer (records_of (together reads)) refl
