-- Laws of a turn over lent memory: the work with the output's room is that with unlimited room, and what is kept is what the work
-- leaves. Assumes nothing.
use Prim.Native.Nat.{ℕ, ◌+◌, ◌-◌, ◌*◌, ◌≤◌}
use native.Mathlib.Omega.{arith}
use native.Mathlib.Nat.{zero-add, sub-zero}
use mathlib.Core.Path.{◌≡◌, refl, sym, ap, ◌∙◌, subst}
use mathlib.Core.Bool.{true, false, false≢true}
use mathlib.Core.List.{List, [], ◌∷◌, ◌++◌}
use lib.Dec.{leb}
use lib.ListN.{length, take, drop, length-drop, length-append}
use lib.Seq.{take-add, take_at, drop_at, length-take-le}
use borrow.Rule.Slice.PartMut.{mid_of, put_mid, same_len_mid}
use borrow.Author.Tests.{leb-true, le-leb}
use Rattle.arithmetic.specs.Binary32.{when◌then◌else◌}
use Rattle.arithmetic.proofs.Choice.{if-all, and_left, and_right}
use Rattle.admission.specs.Faults.{fits_behind}
use Rattle.kept.specs.Kept.{shifted}
use Rattle.kept.proofs.KeptLaws.{kept-stays}
use Rattle.answer_records.specs.Answers.{longest_answer}
use Rattle.records.specs.declared.Place.{Place}
use Rattle.records.specs.declared.Stream.{Stream}
use Rattle.records.specs.Steps.{Put, put, put_at}
use Rattle.records.specs.Streams.{unlimited, Worked, worked, Standing, standing, standing_by, worked_over, last_answer}
use Rattle.records.specs.Turns.{Turned, going_on, turned, Lent, lent, lent_by, has_room_for, closed, turn_over, Ready, Follows}
use Rattle.scene_records.specs.Versions.{longest_either}
use Rattle.records.proofs.RunLaws.{used-within, kept-short}
use Rattle.records.proofs.RoomLaws.{room-enough}

-- ---- the room

pub has_room : (input output kept read : ℕ) → has_room_for input output kept read ≡ true →
    (2 * input + longest_answer ≤ output) × (kept + read ≤ input)
unfolding has_room_for
has_room input output kept read e = (
  leb-true _ _ (and_left (leb (2 * input + longest_answer) output) (fits_behind input kept read) e),
  leb-true _ _ (and_right (leb (2 * input + longest_answer) output) (fits_behind input kept read) e),
)

-- ---- what was read

-- bytes that were read are worked
turned_on : (kept : List ℕ) (skip : ℕ) (read : List ℕ) → 1 ≤ length read → turned kept skip read
    ≡ going_on (kept ++ read) (worked unlimited skip (kept ++ read))
turned_on kept skip [] h = absurd (omega arith)
turned_on kept skip (b ∷ read) h = refl

-- what lies from a place on up to another
pub part_left : (m n : ℕ) (l : List ℕ) → m + n ≤ length l → drop m (take (m + n) l) ≡ take n (drop m l)
part_left m n l h = rw (take-add m n l) (drop_at (take m l) (take n (drop m l)) m (length-take-le m l (omega arith)))

-- ---- the turn

-- the work with the output's room, on what was kept and what was read behind it
freely : (input output : List ℕ) (kept skip read : ℕ) → 2 * length input + longest_answer ≤ length output →
    kept + read ≤ length input →
    worked_over (take (kept + read) input) output skip
    ≡ standing_by (worked unlimited skip (take kept input ++ take read (drop kept input))) output
unfolding worked_over
freely input output kept skip read room there =
    let size : length (take (kept + read) input) ≡ kept + read = length-take-le (kept + read) input there in
    rw (room-enough (length output) skip (take (kept + read) input) (rw size (omega arith)), take-add kept read input)

module _ (input output : List ℕ) (before : Stream) (read : ℕ) where
  pub no-turn : has_room_for (length input) (length output) before.kept read ≡ false → lent closed input output
      ≡ turn_over input output before read
  unfolding turn_over when◌then◌else◌
  no-turn e = rw e

  module _ (room : has_room_for (length input) (length output) before.kept read ≡ true) where
    fits : (2 * length input + longest_answer ≤ length output) × (before.kept + read ≤ length input)
    fits = has_room (length input) (length output) before.kept read room

    pub stepped : turn_over input output before read
        ≡ lent_by (turned (take before.kept input) before.skip (take read (drop before.kept input))) input
        output
    unfolding turn_over when◌then◌else◌
    stepped = rw room

    pub last_turn : read ≡ 0 → (n : ℕ) (out : List ℕ) → put n out ≡ put_at 0 (last_answer before.kept) output →
        lent (record { put = n; kept = 0; skip = 0; more = false }) input out ≡ turn_over input output before read
    last_turn e n out p =
        let long : length (take before.kept input) ≡ before.kept =
        length-take-le before.kept input (omega (arith, fits.1)) in
        let count : n ≡ length (last_answer before.kept) = rw zero-add at (ap (λ (q : Put). q.count) p) in
        let held : out ≡ last_answer before.kept ++ drop (length (last_answer before.kept)) output =
        rw zero-add at (ap (λ (q : Put). q.contents) p) in
        sym (stepped ∙ rw (e, long, count, held) refl)

    -- what was kept, and behind it what was read
    s : List ℕ
    s = take before.kept input ++ take read (drop before.kept input)

    all : take (before.kept + read) input ≡ s
    unfolding s
    all = take-add before.kept read input

    size : length s ≡ before.kept + read
    size = rw (← all) (length-take-le (before.kept + read) input fits.1)

    w : Worked
    w = worked unlimited before.skip s

    module _ (some : read ≡ 0 → ⊥) (p : Place) (out : List ℕ) (e : standing p out
        ≡ worked_over (take (before.kept + read - 0) input) output before.skip) where
      placed : standing p out ≡ standing_by w output
      unfolding s w
      placed = rw sub-zero at e ∙ freely input output before.kept before.skip read fits.0 fits.1

      used : p.used ≡ w.used
      used = ap (λ (x : Standing). x.place.used) placed

      pub used-there : p.used ≤ before.kept + read
      unfolding w
      used-there = omega (arith, used, size, (used-within s unlimited before.skip).fits)

      -- what is moved to the input's start is what the work leaves
      left : take (before.kept + read - p.used) (drop p.used input) ≡ drop w.used s
      left =
          let sum : p.used + (before.kept + read - p.used) ≡ before.kept + read = omega (arith, used-there) in
          sym (part_left p.used (before.kept + read - p.used) input (omega (arith, used-there, fits.1)))
          ∙ ap (λ (n : ℕ). drop p.used (take n input)) sum ∙ ap (drop p.used) all ∙ ap (λ (n : ℕ). drop n s) used

      pub whole-turn : lent (record { put = p.put; kept = before.kept + read - p.used; skip = p.skip; more = true })
          (shifted p.used (before.kept + read - p.used) input) out ≡ turn_over input output before read
      unfolding s w
      whole-turn =
          let brought : 1 ≤ length (take read (drop before.kept input)) =
          rw (length-take-le read (drop before.kept input) (rw length-drop (omega (arith, fits.1))))
          (omega arith) in
          let count : before.kept + read - p.used ≡ length (drop w.used s) = rw (length-drop, size, used) refl in
          let put_same : p.put ≡ length w.answers = ap (λ (x : Standing). x.place.put) placed in
          let skip-same : p.skip ≡ w.skip = ap (λ (x : Standing). x.place.skip) placed in
          let held : out ≡ w.answers ++ drop (length w.answers) output = ap (λ (x : Standing). x.contents) placed in
          sym (stepped ∙ ap (λ (t : Turned). lent_by t input output)
          (turned_on (take before.kept input) before.skip (take read (drop before.kept input)) brought)
          ∙ rw (left, count, put_same, skip-same, held) refl)

-- ---- what a turn tells

-- the answers fit the output, and fewer bytes are kept than the longest record has
record Told (l : Lent) : Type 0 where
  pub fits : l.turn.put ≤ length l.output
  pub short : l.turn.kept ≤ 1 + longest_either

turned-short : (kept : List ℕ) (skip : ℕ) (read : List ℕ) → length (turned kept skip read).kept ≤ 1 + longest_either
turned-short kept skip [] = omega arith
turned-short kept skip (b ∷ read) = kept-short skip (kept ++ (b ∷ read))

told : (input output : List ℕ) (before : Stream) (read : ℕ) → Told (turn_over input output before read)
unfolding turn_over
told input output before read =
    let t = turned (take before.kept input) before.skip (take read (drop before.kept input)) in
    if-all Told (has_room_for (length input) (length output) before.kept read)
    (record {
      fits = rw length-append (omega arith);
      short = turned-short (take before.kept input) before.skip (take read (drop before.kept input));
    })
    (record { fits = omega arith; short = omega arith })

module _ (input output held out : List ℕ) (before t : Stream) (read : ℕ) (e : lent t held out
    ≡ turn_over input output before read) where
  pub put-fits : t.put ≤ length out
  put-fits = (rw (← e) at (told input output before read)).fits

  pub keeps-few : t.kept ≤ 1 + longest_either
  keeps-few = (rw (← e) at (told input output before read)).short

-- ---- a turn of a program

pub mid-length : (n : ℕ) (l : List ℕ) → length (mid_of n (length l - n) l) ≡ length l - n
mid-length n l = length-take-le (length l - n) (drop n l) (rw length-drop (omega arith))

pub lent-parts : (l : Turned) (input output held out : List ℕ) (t : Stream) → lent t held out ≡ lent_by l input output →
    (take t.put out ≡ l.answers) × (take t.kept held ≡ l.kept) × (t.skip ≡ l.skip) × (t.more ≡ l.more)
lent-parts l input output held out t e = (
  rw (ap (λ (x : Lent). x.output) e) (take_at l.answers _ t.put (sym (ap (λ (x : Lent). x.turn.put) e))),
  rw (ap (λ (x : Lent). x.input) e) (take_at l.kept _ t.kept (sym (ap (λ (x : Lent). x.turn.kept) e))),
  ap (λ (x : Lent). x.turn.skip) e,
  ap (λ (x : Lent). x.turn.more) e,
)

module _ (input output held out part : List ℕ) (before t : Stream) (read : ℕ)
    (ready : Ready (length input) (length output) before.kept) where
  -- what the input holds when something was read behind what is kept
  abbrev pub filled : List ℕ
  filled = put_mid before.kept (length input - before.kept) input part

  -- The stream goes on by `run`'s step.
  pub follows : lent t held out ≡ turn_over filled output before read →
      length part ≡ length (mid_of before.kept (length input - before.kept) input) → read ≤ length part
      → Follows before input t held out
  unfolding has_room_for
  follows e sized brought-few =
      let same : length filled ≡ length input = same_len_mid before.kept (length input - before.kept) input part sized in
      let there : before.kept + read ≤ length input = omega (
        arith,
        ready.few,
        ready.long,
        sized
            ∙ mid-length before.kept input,
      ) in
      let room : has_room_for (length filled) (length output) before.kept read ≡ true =
      rw (
        same,
        le-leb (2 * length input + longest_answer) (length output) ready.room,
        le-leb (before.kept + read) (length input) there,
      ) refl in
      let brought = turned (take before.kept filled) before.skip (take read (drop before.kept filled)) in
      let p = lent-parts brought filled output held out t (e ∙ stepped filled output before read room) in
      let stays : take before.kept filled ≡ take before.kept input =
      kept-stays before.kept input part (omega (arith, ready.few, ready.long)) in
      record {
        read = take read (drop before.kept filled);
        answers = rw stays at p.0;
        kept = rw stays at p.1;
        skip = rw stays at p.2;
        more =
            λ on. subst (λ (x : List ℕ). (turned x before.skip (take read (drop before.kept filled))).more ≡ true) stays
            (sym p.3 ∙ on);
      }

  -- so it does where the output failed, but that there is no more
  pub follows-closed : Follows before input t held out →
      Follows before input (record { put = t.put; kept = t.kept; skip = t.skip; more = false }) held out
  follows-closed f = record {
    read = f.read;
    answers = f.answers;
    kept = f.kept;
    skip = f.skip;
    more = λ on. absurd (false≢true on);
  }

  -- The buffers stay ready.
  pub stays-ready : lent t held out ≡ turn_over filled output before read → length held ≡ length input →
      length out ≡ length output → Ready (length held) (length out) t.kept
  stays-ready e a b = record {
    long = omega (arith, ready.long);
    room = omega (arith, ready.room);
    few = keeps-few _ _ _ _ _ _ _ e;
  }
