-- Laws of a turn over lent memory: what stands at the output's start and is kept at the input's is what `run`'s step
-- says. Assumes nothing.
use Rattle.std.proofs.Common.{◌≡◌, ℕ, ◌+◌, ◌-◌, ◌*◌, ◌≤◌, true, false, leb, List, [], ◌∷◌, ◌++◌, length, take, drop, sym, refl, ap, ◌∙◌, arith, length-append, length-drop, length-take-le, take_at, take-add, le-leb, leb-true}
use native.Mathlib.Nat.{sub-zero}
use borrow.Rule.Slice.PartMut.{mid_of, put_mid, same_len_mid}
use Rattle.arithmetic.specs.Binary32.{when◌then◌else◌}
use Rattle.arithmetic.proofs.Choice.{if-all, and_left, and_right}
use Rattle.admission.specs.Faults.{fits_behind}
use Rattle.kept.specs.Kept.{shifted}
use Rattle.kept.proofs.KeptLaws.{kept-stays}
use Rattle.scene_records.specs.declared.Version.{Version}
use Rattle.scene_records.specs.Versions.{longest_either}
use Rattle.records.proofs.TurnLaws.{part_left, mid-length}
use Rattle.admission.specs.declared.refusal.Refusal.{Refusal}
use Rattle.conversion.specs.declared.Stage.{Stage as StageCode}
use Rattle.conversion.specs.declared.Stage.TheVariants as code
use Rattle.conversion.specs.declared.Stream.{Stream}
use Rattle.conversion.specs.declared.Walk.{Walk}
use Rattle.conversion.specs.Stages.{stage_of}
use Rattle.conversion.specs.Streams.{Walked, walked, last_stage, is_open}
use Rattle.conversion.specs.Steps.{Standing, standing, standing_by, walked_over}
use Rattle.conversion.specs.Turns.{Turned, going_on, turned, closed_at, Lent, lent, lent_by, has_room, turn_over}
use Rattle.conversion.specs.Turns.{Ready, Follows}
use Rattle.conversion.proofs.WalkedLaws.{leaves}
use Rattle.conversion.proofs.RunLaws.{kept-short}

-- ---- the room, and what was read

pub has_room_lem : (input output kept read : ℕ) → has_room input output kept read ≡ true →
    (2 * input ≤ output) × (kept + read ≤ input)
unfolding has_room
has_room_lem input output kept read e = (
  leb-true _ _ (and_left (leb (2 * input) output) (fits_behind input kept read) e),
  leb-true _ _ (and_right (leb (2 * input) output) (fits_behind input kept read) e),
)

pub walk-room : (input output : List ℕ) (kept read : ℕ) → has_room (length input) (length output) kept read ≡ true →
    2 * length (take (kept + read - 0) input) ≤ length output
walk-room input output kept read e =
    let fits = has_room_lem (length input) (length output) kept read e in
    rw (sub-zero, length-take-le (kept + read) input fits.1) (omega (arith, fits))

-- which stage it is where a `let .. else` left it
pub not-open : (g : StageCode Refusal) → (g ≡ code.Open → ⊥) → is_open (stage_of g) ≡ false
not-open code.Open h = absurd (h refl)
not-open code.Whole h = refl
not-open (code.Refused r) h = refl
not-open code.NoRoom h = refl

-- bytes that were read are worked
turned_on : (to : Version) (kept : List ℕ) (place : ℕ) (read : List ℕ) → 1 ≤ length read →
    turned to kept place read ≡ going_on (kept ++ read) (walked to place (kept ++ read))
turned_on to kept place [] h = absurd (omega arith)
turned_on to kept place (b ∷ read) h = refl

-- ---- the turn

module _ {E : Type 0} (to : Version) (input output : List ℕ) (before : Stream E) (read : ℕ) where
  pub no-turn : has_room (length input) (length output) before.kept read ≡ false →
      lent (closed_at 0 before.place code.NoRoom) input output ≡ turn_over to input output before read
  unfolding turn_over when◌then◌else◌
  no-turn e = rw e

  module _ (room : has_room (length input) (length output) before.kept read ≡ true) where
    fits : (2 * length input ≤ length output) × (before.kept + read ≤ length input)
    fits = has_room_lem (length input) (length output) before.kept read room

    pub stepped : turn_over to input output before read
        ≡ lent_by (turned to (take before.kept input) before.place (take read (drop before.kept input))) input
        output
    unfolding turn_over when◌then◌else◌
    stepped = rw room

    pub last_turn : (g : StageCode Refusal) → stage_of g ≡ last_stage before.kept → read ≡ 0 →
        lent (closed_at 0 before.place g) input output ≡ turn_over to input output before read
    last_turn g is e =
        let long : length (take before.kept input) ≡ before.kept =
        length-take-le before.kept input (omega (arith, fits.1)) in
        sym (stepped ∙ rw (e, long, is) refl)

    -- what was kept, and behind it what was read
    s : List ℕ
    s = take before.kept input ++ take read (drop before.kept input)

    all : take (before.kept + read) input ≡ s
    unfolding s
    all = take-add before.kept read input

    size : length s ≡ before.kept + read
    size = rw (← all) (length-take-le (before.kept + read) input fits.1)

    w : Walked
    w = walked to before.place s

    module _ (some : read ≡ 0 → ⊥) (v : Walk) (out : List ℕ)
        (e : standing v out ≡ walked_over to (take (before.kept + read - 0) input) output before.place) where
      placed : standing v out ≡ standing_by w output
      unfolding walked_over w
      placed = rw sub-zero at e ∙ rw all

      used : v.place.used ≡ w.used
      used = ap (λ (x : Standing). x.place.used) placed

      pub used-there : v.place.used ≤ before.kept + read
      unfolding w
      used-there = omega (arith, used, size, (leaves to s before.place).fits)

      -- what is moved to the input's start is what the work leaves
      left : take (before.kept + read - v.place.used) (drop v.place.used input) ≡ drop w.used s
      left =
          let sum : v.place.used + (before.kept + read - v.place.used) ≡ before.kept + read =
          omega (arith, used-there) in
          sym (part_left v.place.used (before.kept + read - v.place.used) input
          (omega (arith, used-there, fits.1)))
          ∙ ap (λ (n : ℕ). drop v.place.used (take n input)) sum ∙ ap (drop v.place.used) all
          ∙ ap (λ (n : ℕ). drop n s) used

      went : turn_over to input output before read ≡ lent_by (going_on s w) input output
      unfolding s w
      went =
          let brought : 1 ≤ length (take read (drop before.kept input)) =
          rw (length-take-le read (drop before.kept input) (rw length-drop (omega (arith, fits.1))))
          (omega arith) in
          stepped ∙ ap (λ (t : Turned). lent_by t input output)
          (turned_on to (take before.kept input) before.place (take read (drop before.kept input)) brought)

      stage-same : stage_of v.stage ≡ w.stage
      stage-same = ap (λ (x : Standing). x.stage) placed

      put_same : v.place.put ≡ length w.bytes
      put_same = ap (λ (x : Standing). x.place.put) placed

      place_same : v.place.place ≡ w.place
      place_same = ap (λ (x : Standing). x.place.place) placed

      held : out ≡ w.bytes ++ drop (length w.bytes) output
      held = ap (λ (x : Standing). x.contents) placed

      pub refused-turn : is_open (stage_of v.stage) ≡ false →
          lent (closed_at v.place.put v.place.place v.stage) input out ≡ turn_over to input output before read
      unfolding when◌then◌else◌
      refused-turn h = sym (went ∙ rw (ap is_open (sym stage-same) ∙ h, put_same, place_same, stage-same, held) refl)

      pub whole-turn : v.stage ≡ code.Open →
          lent (record {
            put = v.place.put;
            kept = before.kept + read - v.place.used;
            place = v.place.place;
            stage = code.Open;
          })
          (shifted v.place.used (before.kept + read - v.place.used) input) out
          ≡ turn_over to input output before read
      unfolding when◌then◌else◌
      whole-turn h =
          let count : before.kept + read - v.place.used ≡ length (drop w.used s) =
          rw (length-drop, size, used) refl in
          sym (went ∙ rw (sym stage-same ∙ ap stage_of h, left, count, put_same, place_same, held) refl)

-- ---- what a turn tells

-- the moved records fit the output, and fewer bytes are kept than the longest record has
record Told (l : Lent) : Type 0 where
  pub fits : l.put ≤ length l.output
  pub short : l.kept ≤ 1 + longest_either

told : {E : Type 0} (to : Version) (input output : List ℕ) (before : Stream E) (read : ℕ) → Told (turn_over to input output before read)
unfolding turn_over
told to input output before read =
    if-all Told (has_room (length input) (length output) before.kept read)
    (record {
      fits = rw length-append (omega arith);
      short = kept-short to (take before.kept input) before.place (take read (drop before.kept input));
    })
    (record { fits = omega arith; short = omega arith })

module _ (to : Version) (input output held out : List ℕ) (before t : Stream Refusal) (read : ℕ)
    (e : lent t held out ≡ turn_over to input output before read) where
  pub put-fits : t.put ≤ length out
  put-fits = (rw (← e) at (told to input output before read)).fits

  pub keeps-few : t.kept ≤ 1 + longest_either
  keeps-few = (rw (← e) at (told to input output before read)).short

-- ---- a turn of a program

lent-parts : (l : Turned) (input output held out : List ℕ) (t : Stream Refusal) → lent t held out ≡ lent_by l input output →
    (take t.put out ≡ l.bytes) × (take t.kept held ≡ l.kept) × (t.place ≡ l.place) × (stage_of t.stage ≡ l.stage)
lent-parts l input output held out t e = (
  rw (ap (λ (x : Lent). x.output) e) (take_at l.bytes _ t.put (sym (ap (λ (x : Lent). x.put) e))),
  rw (ap (λ (x : Lent). x.input) e) (take_at l.kept _ t.kept (sym (ap (λ (x : Lent). x.kept) e))),
  ap (λ (x : Lent). x.place) e,
  ap (λ (x : Lent). x.stage) e,
)

module _ (to : Version) (input output held out part : List ℕ) (before t : Stream Refusal) (read : ℕ)
    (ready : Ready (length input) (length output) before.kept) where
  -- what the input holds when something was read behind what is kept
  abbrev pub filled : List ℕ
  filled = put_mid before.kept (length input - before.kept) input part

  -- The stream goes on by `run`'s step.
  pub follows : lent t held out ≡ turn_over to filled output before read →
      length part ≡ length (mid_of before.kept (length input - before.kept) input) → read ≤ length part
      → Follows to before input t held out
  unfolding has_room
  follows e sized brought-few =
      let same : length filled ≡ length input =
      same_len_mid before.kept (length input - before.kept) input part sized in
      let there : before.kept + read ≤ length input =
      omega (arith, ready.few, ready.long, sized ∙ mid-length before.kept input) in
      let room : has_room (length filled) (length output) before.kept read ≡ true =
      rw (
        same,
        le-leb (2 * length input) (length output) ready.room,
        le-leb (before.kept + read) (length input) there,
      ) refl in
      let brought = turned to (take before.kept filled) before.place (take read (drop before.kept filled)) in
      let p = lent-parts brought filled output held out t (e ∙ stepped to filled output before read room) in
      let stays : take before.kept filled ≡ take before.kept input =
      kept-stays before.kept input part (omega (arith, ready.few, ready.long)) in
      record {
        read = take read (drop before.kept filled);
        bytes = rw stays at p.0;
        kept = rw stays at p.1;
        place = rw stays at p.2;
        stage = rw stays at p.3;
      }

  -- The buffers stay ready.
  pub stays-ready : lent t held out ≡ turn_over to filled output before read → length held ≡ length input →
      length out ≡ length output → Ready (length held) (length out) t.kept
  stays-ready e a b =
      record { long = omega (arith, ready.long); room = omega (arith, ready.room); few = keeps-few _ _ _ _ _ _ _ _ e }
