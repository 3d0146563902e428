-- A stream that was moved whole is moved back to itself, from either side. Assumes nothing.
use Rattle.std.proofs.Common.{◌≡◌, ℕ, zero, suc, ◌+◌, ◌≤◌, Bool, true, false, List, [], ◌∷◌, ◌++◌, length, take, drop, sym, refl, ap, ◌∙◌, arith, take-append-drop, get_or-drop, drop-drop, take_at, drop_at, ne_eqb}
use mathlib.Core.Bool.{false≢true}
use Rattle.arithmetic.specs.Binary32.{when◌then◌else◌}
use Rattle.kept.specs.Walks.{walk}
use Rattle.fields.specs.Bytes.{AllBytes}
use Rattle.fields.specs.Got.{Got, refused, got}
use Rattle.fields.proofs.ChainLaws.{got_same}
use Rattle.fields.proofs.WordLaws.{pair-there}
use Rattle.words.specs.Words.{pair_of}
use Rattle.scene_records.specs.declared.Version.{Version}
use Rattle.scene_records.specs.declared.Version.TheVariants.{One, Two}
use Rattle.scene_moves.specs.Moves.{moved}
use Rattle.scene_moves.proofs.Places.{lines-last}
use Rattle.scene_moves.proofs.VersionParts.{parts-taken}
use Rattle.scene_moves.proofs.MoveLaws.{Way, there, back, moved-parts, moved_back}
use Rattle.records.specs.Parts.{Part, skipped, overlong, whole, cut_short, part_in}
use Rattle.records.proofs.PartLaws.{Lies, skips, names, holds, none, lies, whole-stays}
use Rattle.records.proofs.WorkLaws.{by_parts}
use Rattle.conversion.specs.Stages.{Stage}
use Rattle.conversion.specs.Stages as stage
use Rattle.conversion.specs.Streams.{other_of, Met, moves, refuses, waits, met_by, met_as, met_in, next_place}
use Rattle.conversion.specs.Streams.{onward, walked, last_stage, Converted}
use Rattle.conversion.specs.Streams.{ended, converted_from, converted_to}
use Rattle.conversion.specs.Turns.{ahead}
use Rattle.conversion.proofs.WalkedLaws.{work-on}

-- ---- what comes of a stream, by what stands at its start

abbrev converted_by : Version → ℕ → List ℕ → Met → Converted
converted_by to place s waits = record { bytes = []; place = place; stage = last_stage (length s) }
converted_by to place s (refuses r) = record { bytes = []; place = place; stage = stage.Refused r }
converted_by to place s (moves k t) = ahead t (converted_from to (next_place place) (drop k s))

converted-by : (to : Version) (place : ℕ) (s : List ℕ) (q : Met) →
    ended s (onward (walked to) place s q) ≡ converted_by to place s q
unfolding converted_from when◌then◌else◌
converted-by to place s waits = refl
converted-by to place s (refuses r) = refl
converted-by to place s (moves k t) =
    let w = walked to (next_place place) (drop k s) in
    rw (drop-drop w.used k s) refl

converted-on : (to : Version) (place : ℕ) (s : List ℕ) → converted_from to place s ≡ converted_by to place s (met_in to s)
unfolding converted_from
converted-on to place s = ap (ended s) (work-on to place s) ∙ converted-by to place s (met_in to s)

-- ---- a moved record, at the start of a stream

way-to : (to : Version) → Way (other_of to) to
way-to One = back
way-to Two = there

back_to : (to : Version) (s : List ℕ) → AllBytes s → (t : List ℕ) (m : ℕ) → moved (other_of to) to s ≡ got t m →
    moved (other_of (other_of to)) (other_of to) t ≡ got s (length t)
back_to One s h t m e = moved_back s h back t m e
back_to Two s h t m e = moved_back s h there t m e

module _ (to : Version) (s : List ℕ) (h : AllBytes s) (t : List ℕ) (m : ℕ) (e : moved (other_of to) to s ≡ got t m) where
  moved-lies : Lies 0 t (whole (length t))
  moved-lies =
      moved-parts s h (way-to to) t m e λ p z read again here is.
      parts-taken t to p (length t) again λ n b d i f word right few byte fits read-cart read-os few-os list-os
      read-ls few-ls list-ls end.
      let long = lines-last t to p (length t) again in
      let named : pair_of t 0 ≡ n = (got_same (pair-there t 0 (omega arith) ∙ word)).0 in
      holds (omega arith) (omega arith) (omega arith) (omega arith) (omega arith)

  back-met : (rest : List ℕ) → met_in (other_of to) (t ++ rest) ≡ moves (length t) s
  unfolding met_in
  back-met rest = rw (whole-stays 0 t rest moved-lies, take_at t rest (length t) refl, back_to to s h t m e) refl

-- ---- the stream

abbrev is_whole : Stage → Bool
is_whole stage.Open = false
is_whole stage.Whole = true
is_whole (stage.Refused r) = false
is_whole stage.NoRoom = false

-- what a stream that was moved whole comes to
abbrev all_moved : List ℕ → ℕ → Converted
all_moved t n = record { bytes = t; place = n; stage = stage.Whole }

abbrev Back : Version → List ℕ → Type 0
Back to s = AllBytes s → (place : ℕ) (t : List ℕ) (n : ℕ) → converted_from to place s ≡ all_moved t n →
    converted_from (other_of to) place t ≡ all_moved s n

nothing-back : (to : Version) (place : ℕ) → converted_from to place [] ≡ all_moved [] place
unfolding converted_from walked walk last_stage when◌then◌else◌
nothing-back to place = refl

-- the parts of what comes of it
same_parts : (c : Converted) (x t : List ℕ) (n : ℕ) → ahead x c ≡ all_moved t n →
    (x ++ c.bytes ≡ t) × (c ≡ all_moved c.bytes n)
same_parts c x t n e =
    let place : c.place ≡ n = ap (λ (y : Converted). y.place) e in
    let end : c.stage ≡ stage.Whole = ap (λ (y : Converted). y.stage) e in
    (ap (λ (y : Converted). y.bytes) e, rw (place, end) refl)

drop-bytes : (k : ℕ) (s : List ℕ) → AllBytes s → AllBytes (drop k s)
drop-bytes k s h i = rw (get_or-drop k s i 0) (h (k + i))

take-bytes : (k : ℕ) (s : List ℕ) → AllBytes s → AllBytes (take k s)
take-bytes zero s h i = omega arith
take-bytes (suc k) [] h i = omega arith
take-bytes (suc k) (x ∷ s) h zero = h 0
take-bytes (suc k) (x ∷ s) h (suc i) = take-bytes k s (λ j. h (suc j)) i

-- only a stream of no bytes ends whole without a record
none-whole : (s : List ℕ) → last_stage (length s) ≡ stage.Whole → s ≡ []
unfolding last_stage when◌then◌else◌
none-whole [] e = refl
none-whole (b ∷ s) e =
    absurd (false≢true (ap is_whole (rw (ne_eqb (length (b ∷ s)) 0 (λ (z : length (b ∷ s) ≡ 0). omega arith)) at e)))

module _ (to : Version) (s : List ℕ) (next : (k : ℕ) → 1 ≤ k → k ≤ length s → Back to (drop k s)) (h : AllBytes s)
    (place : ℕ) (t : List ℕ) (n : ℕ) where
  abbrev Goal : Type 0
  Goal = converted_from (other_of to) place t ≡ all_moved s n

  record-back : (k : ℕ) → 1 ≤ k → k ≤ length s → (g : Got (List ℕ)) → moved (other_of to) to (take k s) ≡ g →
      converted_by to place s (met_by k g) ≡ all_moved t n → Goal
  record-back k one fits (refused r) m e = absurd (false≢true (ap (λ (y : Converted). is_whole y.stage) e))
  record-back k one fits (got x j) m e =
      let c = converted_from to (next_place place) (drop k s) in
      let both = same_parts c x t n e in
      let rest = next k one fits (drop-bytes k s h) (next_place place) c.bytes n both.1 in
      ap (converted_from (other_of to) place) (sym both.0)
      ∙ converted-on (other_of to) place (x ++ c.bytes)
      ∙ ap (converted_by (other_of to) place (x ++ c.bytes)) (back-met to (take k s) (take-bytes k s h) x j m c.bytes)
      ∙ ap (λ (l : List ℕ). ahead (take k s) (converted_from (other_of to) (next_place place) l))
      (drop_at x c.bytes (length x) refl)
      ∙ ap (ahead (take k s)) rest
      ∙ ap (λ (l : List ℕ). all_moved l n) (take-append-drop k s)

  part-back : (q : Part) → Lies 0 s q → converted_by to place s (met_as to s q) ≡ all_moved t n → Goal
  part-back (skipped k) (skips one fits near) e = absurd (omega arith)
  part-back (overlong r) (names z two far f) e = absurd (false≢true (ap (λ (y : Converted). is_whole y.stage) e))
  part-back (whole k) (holds z two near fits f) e =
      record-back k (omega arith) fits (moved (other_of to) to (take k s)) refl e
  part-back cut_short (none few) e =
      let empty = none-whole s (ap (λ (y : Converted). y.stage) e) in
      ap (converted_from (other_of to) place) (sym (ap (λ (y : Converted). y.bytes) e)) ∙ nothing-back (other_of to) place
      ∙ ap (all_moved []) (ap (λ (y : Converted). y.place) e) ∙ ap (λ (l : List ℕ). all_moved l n) (sym empty)

stream-back : (to : Version) (s : List ℕ) → Back to s
unfolding met_in
stream-back to =
    by_parts (Back to) λ s next h place t n e.
    part-back to s next h place t n (part_in 0 s) (lies 0 s) (sym (converted-on to place s) ∙ e)

-- "There and back gives the same bytes from either side": so does a stream, record by record.
pub stream-there-and-back : (to : Version) (s : List ℕ) → AllBytes s → (t : List ℕ) (n : ℕ) →
    converted_to to s ≡ all_moved t n → converted_to (other_of to) t ≡ all_moved s n
stream-there-and-back to s h t n e = stream-back to s h 0 t n e
