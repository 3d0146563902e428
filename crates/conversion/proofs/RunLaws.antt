-- However the stream is cut into reads, what the program writes and tells is what comes of the whole of it. Assumes
-- nothing.
use Rattle.std.proofs.Common.{◌≡◌, ℕ, ◌+◌, ◌≤◌, Bool, true, false, eqb, List, [], ◌∷◌, ◌++◌, length, drop, sym, refl, ap, ◌∙◌, append_assoc, append-nil, arith, drop-drop}
use mathlib.Core.Bool.{false≢true}
use lib.Seq.{drop-append-le}
use Rattle.arithmetic.specs.Binary32.{when◌then◌else◌}
use Rattle.arithmetic.proofs.Choice.{if-all}
use Rattle.kept.specs.Walks.{walk}
use Rattle.scene_records.specs.declared.Version.{Version}
use Rattle.scene_records.specs.Versions.{longest_either}
use Rattle.records.specs.Turns.{joined}
use Rattle.conversion.specs.Stages.{Stage}
use Rattle.conversion.specs.Stages as stage
use Rattle.conversion.specs.Streams.{Walked, stopped, after, walked, last_stage, is_open, Converted, ended}
use Rattle.conversion.specs.Streams.{converted_from, converted_to}
use Rattle.conversion.specs.Turns.{turned, told_by, ahead, run}
use Rattle.conversion.proofs.WalkedLaws.{leaves}

-- ---- what is kept

few-kept : (open_is : Bool) (l : List ℕ) → (open_is ≡ true → length l ≤ 1 + longest_either) →
    length (when open_is then l else []) ≤ 1 + longest_either
unfolding when◌then◌else◌
few-kept true l h = h refl
few-kept false l h = omega arith

-- What a turn keeps is shorter than the longest record: 2,888 bytes at most wait for the next read.
pub kept-short : (to : Version) (kept : List ℕ) (place : ℕ) (read : List ℕ) →
    length (turned to kept place read).kept ≤ 1 + longest_either
kept-short to kept place [] = omega arith
kept-short to kept place (b ∷ read) =
    let s = kept ++ (b ∷ read) in
    let w = walked to place s in
    few-kept (is_open w.stage) (drop w.used s) (leaves to s place).few

-- ---- a cut

abbrev as_it_stands : Walked → Converted
as_it_stands w = record { bytes = w.bytes; place = w.place; stage = w.stage }

-- the end behind a part: of w's records, and then of the work v on the rest l, which lies at w's end in s
module _ (s l : List ℕ) (w v : Walked) (lies : drop w.used s ≡ l) where
  ended-cut : (open_is : Bool) → is_open w.stage ≡ open_is →
      ended s (when open_is then after w.used w.bytes v else w)
      ≡ (when open_is then ahead w.bytes (ended l v) else as_it_stands w)
  unfolding when◌then◌else◌
  ended-cut true e =
      let left : drop (w.used + v.used) s ≡ drop v.used l = sym (drop-drop v.used w.used s)
      ∙ ap (drop v.used) lies in
      rw left
  ended-cut false e = rw e

-- what comes of a with b behind it: the records of a, and then what comes of the rest of a with b behind it; or a
-- refusal ends it
pub cut-converted : (to : Version) (place : ℕ) (a b : List ℕ) → let w = walked to place a in
    converted_from to place (a ++ b)
    ≡ (when is_open w.stage then ahead w.bytes
    (converted_from to w.place (drop w.used a ++ b)) else as_it_stands w)
unfolding converted_from
cut-converted to place a b =
    let w = walked to place a in
    let l = leaves to a place in
    ap (ended (a ++ b)) (l.cut b)
    ∙ ended-cut (a ++ b) (drop w.used a ++ b) w (walked to w.place (drop w.used a ++ b))
    (drop-append-le w.used a b l.fits) (is_open w.stage) refl

-- ---- reads

end-told : (to : Version) (kept : List ℕ) (place : ℕ) → walked to place kept ≡ stopped place stage.Open →
    told_by (turned to kept place []) ≡ converted_from to place kept
unfolding converted_from when◌then◌else◌
end-told to kept place e = rw e

open-stage : (g : Stage) → is_open g ≡ true → g ≡ stage.Open
open-stage stage.Open h = refl
open-stage stage.Whole h = absurd (false≢true h)
open-stage (stage.Refused r) h = absurd (false≢true h)
open-stage stage.NoRoom h = absurd (false≢true h)

last-closed : (left : ℕ) → is_open (last_stage left) ≡ false
unfolding last_stage
last-closed left = if-all (λ (g : Stage). is_open g ≡ false) (eqb left 0) refl refl

-- a turn on bytes, and the turns behind it
module _ (to : Version) (place : ℕ) (s : List ℕ) (reads : List (List ℕ))
    (next : (kept : List ℕ) (p : ℕ) → walked to p kept ≡ stopped p stage.Open →
    run to kept p reads ≡ converted_from to p (kept ++ joined reads)) where
  turn_on : (w : Walked) → w ≡ walked to place s → (open_is : Bool) → is_open w.stage ≡ open_is →
      (when open_is then ahead w.bytes
      (run to (when open_is then drop w.used s else []) w.place reads) else as_it_stands w)
      ≡ (when open_is then ahead w.bytes
      (converted_from to w.place (drop w.used s ++ joined reads)) else as_it_stands w)
  unfolding when◌then◌else◌
  turn_on w e true h =
      let left = rw (← e) at (leaves to s place) in
      ap (ahead w.bytes) (next (drop w.used s) w.place
      (left.still h ∙ ap (stopped w.place) (open-stage w.stage h)))
  turn_on w e false h = refl

run-from : (to : Version) (reads : List (List ℕ)) (kept : List ℕ) (place : ℕ) →
    walked to place kept ≡ stopped place stage.Open →
    run to kept place reads ≡ converted_from to place (kept ++ joined reads)
unfolding run joined when◌then◌else◌
run-from to [] kept place e = rw (append-nil kept) (end-told to kept place e)
run-from to ([] ∷ reads) kept place e = rw (append-nil kept, last-closed (length kept)) (end-told to kept place e)
run-from to ((b ∷ read) ∷ reads) kept place e =
    let s = kept ++ (b ∷ read) in
    turn_on to place s reads (run-from to reads) (walked to place s) refl (is_open (walked to place s).stage) refl
    ∙ sym (cut-converted to place s (joined reads))
    ∙ ap (converted_from to place) (append_assoc kept (b ∷ read) (joined reads))

-- What the program writes and tells over any reads is what comes of its whole input.
pub any-reads : (to : Version) (reads : List (List ℕ)) → run to [] 0 reads ≡ converted_to to (joined reads)
unfolding walked walk
any-reads to reads = run-from to reads [] 0 refl

-- no input, no output
pub no_output : (to : Version) → converted_to to [] ≡ record { bytes = []; place = 0; stage = stage.Whole }
unfolding converted_from walked walk last_stage when◌then◌else◌
no_output to = refl
