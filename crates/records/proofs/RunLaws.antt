-- However the input is cut into reads, the program's answers are those to the whole of it. Assumes nothing.
use Prim.Native.Nat.{ℕ, ◌+◌, ◌-◌, ◌≤◌}
use native.Mathlib.Omega.{arith}
use mathlib.Core.Path.{◌≡◌, refl, sym, ap, ◌∙◌}
use mathlib.Core.List.{List, [], ◌∷◌, ◌++◌, append_assoc, append-nil}
use lib.ListN.{length, take, drop, length-drop, length-append}
use lib.Seq.{drop-drop, drop-append-le}
use Rattle.arithmetic.specs.Binary32.{when◌then◌else◌}
use Rattle.arithmetic.proofs.Choice.{if-all}
use Rattle.answer_records.specs.Answers.{refusal_bytes}
use Rattle.records.specs.Answered.{reply_to}
use Rattle.scene_records.specs.Versions.{longest_either}
use Rattle.records.specs.Parts.{Part, skipped, overlong, whole, cut_short, part_in}
use Rattle.records.specs.Streams.{Room, unlimited, has_room, less, Worked, stopped, after, onward, parts, worked, last_answer, ended, answers_from, answers_to}
use Rattle.records.specs.Turns.{run, joined}
use Rattle.records.proofs.PartLaws.{Lies, skips, names, holds, none, lies}
use Rattle.records.proofs.WorkLaws.{work-on, work-freely, by_parts}
use Rattle.records.proofs.CutLaws.{cut}

-- ---- no more bytes are used than there are

pub record Within (l : List ℕ) (w : Worked) : Type 0 where
  pub fits : w.used ≤ length l

behind-within : (k : ℕ) (x l : List ℕ) (w : Worked) → k ≤ length l → Within (drop k l) w → Within l (after k x w)
behind-within k x l w h v = record { fits = let f : w.used ≤ length l - k = rw length-drop at v.fits in omega arith }

part-within : (room : Room) (skip : ℕ) (l : List ℕ) (q : Part) → Lies skip l q →
    ((k : ℕ) → 1 ≤ k → k ≤ length l → (r : Room) (s : ℕ) → Within (drop k l) (worked r s (drop k l))) →
    Within l (onward worked room skip l q)
part-within room skip l (skipped k) (skips one fits there) next = behind-within k [] l _ there (next k one there room (skip - k))
part-within room skip l (overlong n) (names z two far e) next =
    behind-within 2 (refusal_bytes 4) l _ two (next 2 (omega arith) two (less room (length (refusal_bytes 4))) n)
part-within room skip l (whole k) (holds z two near there e) next =
    behind-within k (reply_to (take k l)) l _ there
    (next k (omega arith) there (less room (length (reply_to (take k l)))) 0)
part-within room skip l cut_short (none few) next = record { fits = omega arith }

pub used-within : (l : List ℕ) (room : Room) (skip : ℕ) → Within l (worked room skip l)
used-within =
    by_parts (λ (l : List ℕ). (room : Room) (skip : ℕ) → Within l (worked room skip l)) λ l next room skip.
    rw (work-on room skip l) (if-all (Within l) (has_room room)
    (part-within room skip l (part_in skip l) (lies skip l) next) (record { fits = omega arith }))

-- ---- nothing is left to work where the work stopped

no_more : (x y : List ℕ) → length (x ++ y) ≡ length x → y ≡ []
no_more x [] e = refl
no_more x (b ∷ y) e = absurd (omega (arith, length-append x (b ∷ y)))

made : ℕ → List ℕ → ℕ → Worked
made n x s = record { used = n; answers = x; skip = s }

nothing-more : (w v : Worked) → w ≡ after w.used w.answers v → v ≡ stopped w.skip
unfolding made
nothing-more w v e =
    let used : v.used ≡ 0 = (let u = ap (λ (x : Worked). x.used) e in omega arith) in
    let answers : v.answers ≡ [] = no_more w.answers v.answers (sym (ap (λ (x : Worked). length x.answers) e)) in
    let skip : v.skip ≡ w.skip = sym (ap (λ (x : Worked). x.skip) e) in
    ap (λ (n : ℕ). made n v.answers v.skip) used ∙ ap (λ (x : List ℕ). made 0 x v.skip) answers ∙ ap (made 0 []) skip

pub worked-out : (skip : ℕ) (a : List ℕ) →
    worked unlimited (worked unlimited skip a).skip (drop (worked unlimited skip a).used a)
    ≡ stopped (worked unlimited skip a).skip
worked-out skip a = nothing-more (worked unlimited skip a) _ (simp append-nil at (cut unlimited skip a []).same)

-- where nothing is left to work, fewer bytes are left than the longest record has
module _ (skip : ℕ) (l : List ℕ) (still : worked unlimited skip l ≡ stopped skip) where
  unmoved : (q : Part) → part_in skip l ≡ q → (onward worked unlimited skip l q).used ≡ 0
  unmoved q e = ap (λ (w : Worked). w.used) (ap (onward worked unlimited skip l) (sym e) ∙ sym (work-freely skip l) ∙ still)

  few-left : (q : Part) → Lies skip l q → part_in skip l ≡ q → length l ≤ 1 + longest_either
  few-left (skipped k) (skips one fits there) e = absurd (omega (arith, unmoved (skipped k) e))
  few-left (overlong n) (names z two far f) e = absurd (omega (arith, unmoved (overlong n) e))
  few-left (whole k) (holds z two near there f) e = absurd (omega (arith, unmoved (whole k) e))
  few-left cut_short (none few) e = few

-- What the work leaves is shorter than the longest record: 2,632 bytes at most are kept for the next read.
pub kept-short : (skip : ℕ) (a : List ℕ) → length (drop (worked unlimited skip a).used a) ≤ 1 + longest_either
kept-short skip a =
    let s = (worked unlimited skip a).skip in
    let l = drop (worked unlimited skip a).used a in
    few-left s l (worked-out skip a) (part_in s l) (lies s l) refl

-- ---- reads

-- the answers to a with b behind it: those of the work on a, then those to what it leaves, with b behind it
pub cut-answers : (skip : ℕ) (a b : List ℕ) →
    (worked unlimited skip a).answers ++ answers_from (worked unlimited skip a).skip
    (drop (worked unlimited skip a).used a ++ b) ≡ answers_from skip (a ++ b)
unfolding answers_from
cut-answers skip a b =
    let w = worked unlimited skip a in
    let v = worked unlimited w.skip (drop w.used a ++ b) in
    let left : drop v.used (drop w.used a ++ b) ≡ drop (w.used + v.used) (a ++ b) =
    ap (drop v.used) (sym (drop-append-le w.used a b (used-within a unlimited skip).fits))
    ∙ drop-drop v.used w.used (a ++ b) in
    sym (append_assoc w.answers v.answers (last_answer (length (drop v.used (drop w.used a ++ b)))))
    ∙ ap (λ (l : List ℕ). w.answers ++ v.answers ++ last_answer (length l)) left
    ∙ ap (ended (a ++ b)) (sym (cut unlimited skip a b).same)

run-from : (reads : List (List ℕ)) (kept : List ℕ) (skip : ℕ) → worked unlimited skip kept ≡ stopped skip →
    run kept skip reads ≡ answers_from skip (kept ++ joined reads)
unfolding run joined answers_from when◌then◌else◌
run-from [] kept skip e = rw (append-nil, e)
run-from ([] ∷ reads) kept skip e = rw (append-nil, append-nil, e)
run-from ((b ∷ read) ∷ reads) kept skip e =
    let s = kept ++ (b ∷ read) in
    let w = worked unlimited skip s in
    ap (λ (l : List ℕ). w.answers ++ l) (run-from reads (drop w.used s) w.skip (worked-out skip s))
    ∙ cut-answers skip s (joined reads)
    ∙ ap (answers_from skip) (append_assoc kept (b ∷ read) (joined reads))

-- no bytes, no part
pub nothing_read : worked unlimited 0 [] ≡ stopped 0
unfolding worked parts
nothing_read = refl

-- The program's answers to any reads are those to its whole input.
pub any-reads : (reads : List (List ℕ)) → run [] 0 reads ≡ answers_to (joined reads)
any-reads reads = run-from reads [] 0 nothing_read

-- "no input, no output"
pub no_output : answers_to [] ≡ []
unfolding answers_from worked parts last_answer when◌then◌else◌
no_output = refl
