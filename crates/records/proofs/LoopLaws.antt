-- What one part worked does for the work on all: the loop goes on. Assumes nothing.
use Prim.Native.Nat.{ℕ, ◌+◌, ◌-◌, ◌≤◌, ◌<◌}
use native.Mathlib.Omega.{arith}
use native.Mathlib.Nat.{add-zero, sub-zero}
use mathlib.Core.Path.{◌≡◌, refl, sym, ap, ◌∙◌}
use mathlib.Core.List.{List, [], ◌++◌, append-nil}
use lib.Dec.{leb}
use lib.ListN.{length, take, drop, length-drop, length-append, take-append-drop}
use lib.Seq.{drop-drop, take_at, drop_at, length-take-le}
use borrow.Author.Tests.{leb-true, le-leb}
use Rattle.arithmetic.specs.Binary32.{when◌then◌else◌}
use Rattle.arithmetic.proofs.Choice.{if-case}
use Rattle.fields.specs.Bytes.{big_endian}
use Rattle.answer_records.specs.Answers.{longest_answer, refusal_bytes}
use Rattle.records.specs.declared.Place.{Place}
use Rattle.records.specs.Answered.{reply_to}
use Rattle.records.specs.Parts.{Part, skipped, overlong, whole, cut_short, part_in}
use Rattle.records.specs.Steps.{put, put_at, Stepped, goes_on, stops, place_at, step_by, step_over}
use Rattle.records.specs.Streams.{bytes, Worked, stopped, after, onward, worked, standing, standing_by, worked_over}
use Rattle.records.proofs.PartLaws.{Lies, skips, names, holds, none, lies}
use Rattle.records.proofs.StepLaws.{reply-length}
use Rattle.records.proofs.WorkLaws.{after_nothing, after-after, work-on}

-- the work that is left at a place
abbrev pub left_at : List ℕ → List ℕ → Place → Worked
left_at s out p = worked (bytes (length out - p.put)) p.skip (drop p.used s)

-- what is done at a place, and the work that is left there
abbrev pub done_at : List ℕ → List ℕ → Place → Worked
done_at s out p = after p.used (take p.put out) (left_at s out p)

-- a part was worked: the place moves on, bytes behind the answers stay, and with the work that is left it comes to the same
pub record Advanced (s out : List ℕ) (p next : Place) (held : List ℕ) : Type 0 where
  pub moves : p.used < next.used
  pub inside : next.used ≤ length s
  pub grows : p.put ≤ next.put
  pub fits : next.put ≤ length held
  pub sized : length held ≡ length out
  pub behind : drop next.put held ≡ drop next.put out
  pub same : done_at s out p ≡ done_at s held next

pub data Does (s out : List ℕ) (p : Place) : Stepped → Type 0 where
  advances : {next : Place} {held : List ℕ} → Advanced s out p next held → Does s out p (goes_on next held)
  halts : left_at s out p ≡ stopped p.skip → Does s out p (stops out)

-- bytes put behind the n that stand
module _ (n : ℕ) (r out : List ℕ) (h : n + length r ≤ length out) where
  front : length (take n out ++ r) ≡ n + length r
  front = rw (length-append, length-take-le n out (omega arith))

  pub put-sized : length (put_at n r out).contents ≡ length out
  put-sized = rw (length-append, front, length-drop) (omega arith)

  pub put_front : take (n + length r) (put_at n r out).contents ≡ take n out ++ r
  put_front = take_at (take n out ++ r) (drop (n + length r) out) (n + length r) front

  pub put-behind : drop (n + length r) (put_at n r out).contents ≡ drop (n + length r) out
  put-behind = drop_at (take n out ++ r) (drop (n + length r) out) (n + length r) front

module _ (s out : List ℕ) (p : Place) (room : longest_answer ≤ length out - p.put) (ahead : p.used ≤ length s) where
  -- an answer of at most 18 bytes to k bytes
  answered-advance : (k skip : ℕ) (r : List ℕ) → 1 ≤ k → k ≤ length (drop p.used s) → length r ≤ longest_answer →
      left_at s out p ≡ after k r (worked (bytes (length out - p.put - length r)) skip (drop k (drop p.used s))) →
      Advanced s out p (place_at (p.used + k) (put_at p.put r out) skip) (put_at p.put r out).contents
  answered-advance k skip r one there short e =
      let inner : k ≤ length s - p.used = rw length-drop at there in
      let fit : p.put + length r ≤ length out = omega arith in
      let size = put-sized p.put r out fit in
      let left : length out - p.put - length r ≡ length (put_at p.put r out).contents - (p.put + length r) = omega arith in
      record {
        moves = omega arith;
        inside = omega arith;
        grows = omega arith;
        fits = rw size fit;
        sized = size;
        behind = put-behind p.put r out fit;
        same =
            ap (after p.used (take p.put out)) e
            ∙ after-after p.used k (take p.put out) r _
            ∙ ap (λ (l : List ℕ). after (p.used + k) (take p.put out ++ r)
            (worked (bytes (length out - p.put - length r)) skip l)) (drop-drop k p.used s)
            ∙ ap (λ (n : ℕ). after (p.used + k) (take p.put out ++ r) (worked (bytes n) skip (drop (p.used + k) s))) left
            ∙ ap (λ (x : List ℕ). after (p.used + k) x
            (worked (bytes (length (put_at p.put r out).contents - (p.put + length r))) skip
            (drop (p.used + k) s))) (sym (put_front p.put r out fit));
      }

  -- bytes skipped
  skipped-advance : (k : ℕ) → 1 ≤ k → k ≤ length (drop p.used s) →
      left_at s out p ≡ after k [] (worked (bytes (length out - p.put)) (p.skip - k) (drop k (drop p.used s))) →
      Advanced s out p (place_at (p.used + k) (put p.put out) (p.skip - k)) out
  skipped-advance k one there e =
      let inner : k ≤ length s - p.used = rw length-drop at there in
      record {
        moves = omega arith;
        inside = omega arith;
        grows = omega arith;
        fits = omega arith;
        sized = refl;
        behind = refl;
        same = ap (after p.used (take p.put out)) e ∙ after-after p.used k (take p.put out) [] _
            ∙ rw (append-nil, drop-drop);
      }

  module _ (q : Part) (e : part_in p.skip (drop p.used s) ≡ q) where
    with_part : left_at s out p ≡ onward worked (bytes (length out - p.put)) p.skip (drop p.used s) q
    unfolding when◌then◌else◌
    with_part = work-on (bytes (length out - p.put)) p.skip (drop p.used s)
        ∙ rw (le-leb longest_answer (length out - p.put) room, e)

  by_part : (q : Part) → Lies p.skip (drop p.used s) q → part_in p.skip (drop p.used s) ≡ q →
      Does s out p (step_by s out p q)
  unfolding refusal_bytes big_endian
  by_part cut_short (none few) e = halts (with_part cut_short e)
  by_part (skipped k) (skips one fits there) e = advances (skipped-advance k one there (with_part (skipped k) e))
  by_part (overlong n) (names z two far f) e =
      advances (answered-advance 2 n (refusal_bytes 4) (omega arith) two (omega arith) (with_part (overlong n) e))
  by_part (whole k) (holds z two near there f) e =
      advances (answered-advance k 0 (reply_to (take k (drop p.used s))) (omega arith) there
      (reply-length (take k (drop p.used s))) (with_part (whole k) e))

pub does : (s out : List ℕ) (p : Place) → p.used ≤ length s → Does s out p (step_over s out p)
unfolding step_over when◌then◌else◌
does s out p h =
    if-case (Does s out p) (leb longest_answer (length out - p.put))
    (λ room. by_part s out p (leb-true longest_answer (length out - p.put) room) h (part_in p.skip (drop p.used s))
    (lies p.skip (drop p.used s)) refl)
    (λ full. halts (work-on (bytes (length out - p.put)) p.skip (drop p.used s) ∙ rw full))

-- ---- the end of the loop

pub drop_more : (m n : ℕ) (a b : List ℕ) → m ≤ n → drop m a ≡ drop m b → drop n a ≡ drop n b
drop_more m n a b h e =
    let all : m + (n - m) ≡ n = omega arith in
    rw all at (sym (drop-drop (n - m) m a) ∙ ap (drop (n - m)) e ∙ drop-drop (n - m) m b)

-- where nothing is left to work, what was done is what the whole work comes to
finished : (s out held : List ℕ) (skip : ℕ) (p : Place) → p.put ≤ length held → drop p.put held ≡ drop p.put out
    → worked (bytes (length out)) skip s ≡ done_at s held p →
    left_at s held p ≡ stopped p.skip → standing p held ≡ worked_over s out skip
unfolding worked_over
finished s out held skip p fits behind same nothing =
    let all : worked (bytes (length out)) skip s ≡ record { used = p.used; answers = take p.put held; skip = p.skip } =
    same ∙ ap (after p.used (take p.put held)) nothing ∙ rw (add-zero, append-nil) in
    sym (ap (λ (w : Worked). standing_by w out) all ∙ rw (length-take-le p.put held fits, ← behind, take-append-drop))

-- ---- the loop's invariant

pub record Going (s out : List ℕ) (skip : ℕ) (held : List ℕ) (p : Place) : Type 0 where
  pub inside : p.used ≤ length s
  pub fits : p.put ≤ length held
  pub sized : length held ≡ length out
  pub behind : drop p.put held ≡ drop p.put out
  pub same : worked (bytes (length out)) skip s ≡ done_at s held p

pub begins : (s out : List ℕ) (skip : ℕ) → Going s out skip out (record { used = 0; put = 0; skip = skip })
begins s out skip = record {
  inside = omega arith;
  fits = omega arith;
  sized = refl;
  behind = refl;
  same = sym (rw sub-zero (after_nothing (worked (bytes (length out)) skip s)));
}

module _ (s out : List ℕ) (skip : ℕ) (held : List ℕ) (p : Place) (g : Going s out skip held p) where
  took : (x : Stepped) → x ≡ step_over s held p → Does s held p x
  took x e = rw e (does s held p g.inside)

  advanced-by : {next : Place} {l : List ℕ} → Does s held p (goes_on next l) → Advanced s held p next l
  advanced-by (advances t) = t

  halted-by : {l : List ℕ} → Does s held p (stops l) → (l ≡ held) × (left_at s held p ≡ stopped p.skip)
  halted-by (halts e) = (refl, e)

  pub advance : (next : Place) (l : List ℕ) → goes_on next l ≡ step_over s held p → Advanced s held p next l
  advance next l e = advanced-by (took (goes_on next l) e)

  pub goes_on_lem : (next : Place) (l : List ℕ) → goes_on next l ≡ step_over s held p → Going s out skip l next
  goes_on_lem next l e =
      let t = advance next l e in
      record {
        inside = t.inside;
        fits = t.fits;
        sized = t.sized ∙ g.sized;
        behind = t.behind ∙ drop_more p.put next.put held out t.grows g.behind;
        same = g.same ∙ t.same;
      }

  pub ends : (l : List ℕ) → stops l ≡ step_over s held p → standing p l ≡ worked_over s out skip
  ends l e =
      let h = halted-by (took (stops l) e) in
      rw h.0 (finished s out held skip p g.fits g.behind g.same h.1)
