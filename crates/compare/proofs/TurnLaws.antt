-- What a turn does with what was read is a step of a run, and what waits is what the step leaves. Assumes nothing.
use Prim.Native.Nat.{ℕ, zero, suc, ◌+◌, ◌-◌, ◌*◌, ◌≤◌, ◌<◌}
use native.Mathlib.Omega.{arith}
use native.Mathlib.Nat.{sub-zero}
use mathlib.Core.Path.{◌≡◌, refl, sym, ap, ◌∙◌}
use mathlib.Core.Bool.{true, false}
use Rattle.std.specs.Prelude.{Option, Some, None, Result}
use mathlib.Core.List.{List, [], ◌∷◌, ◌++◌}
use lib.Dec.{ltb}
use lib.ListN.{length, take, drop, length-drop}
use lib.Seq.{take-add, take_at, drop_at, take-append-le, length-take-le}
use borrow.Rule.Slice.PartMut.{mid_of, post_of, put_mid, same_len_mid}
use borrow.Author.Tests.{le-leb, lt-ltb, ltb-true}
use Rattle.arithmetic.proofs.Choice.{and_left, and_right}
use Rattle.kept.specs.Kept.{Kept as Moved, kept, shifted, kept_over}
use Rattle.kept.proofs.KeptLaws.{kept_there, kept-stays}
use Rattle.answer_records.specs.Answers.{longest_answer}
use Rattle.records.specs.declared.Stream.{Stream}
use Rattle.records.specs.Turns.{Turned, turned, lent, turn_over, has_room_for}
use Rattle.records.proofs.TurnLaws as turns
use Rattle.comparison.specs.declared.Differing.{Differing}
use Rattle.comparison.specs.declared.UnreadableAt.{UnreadableAt}
use Rattle.comparison.specs.declared.Progress.{Progress as ProgressCode}
use Rattle.comparison.specs.Verdicts.{Progress, compared_of, found_of, progress_in}
use Rattle.comparison.specs.Comparing.{compared_from, advanced}
use Rattle.comparison.specs.Reads.{start, with_scenes, is_some, with_answers, leaving, stepped_by, compared_on, wants}
use Rattle.comparison.proofs.PartLaws.{used-within}
use Rattle.compare.specs.declared.Reading.{Reading}
use Rattle.compare.specs.Turns.{kept_in, beginning, counted, Advances, Ready, Follows, of-scenes, of-answers, at-end}

-- what the code tells
abbrev Verdict : Type 0
Verdict = Result (Option Differing) UnreadableAt

-- ---- what is left of a side

module _ (from end count : ℕ) (l out : List ℕ) (within : from ≤ end) (fits : end ≤ length l) (e : kept count out
    ≡ kept_over from end l) where
  moved : kept count out ≡ kept (end - from) (shifted from (end - from) l)
  moved = e ∙ kept_there from end l within fits

  there : length (take (end - from) (drop from l)) ≡ end - from
  there = length-take-le (end - from) (drop from l) (rw length-drop (omega arith))

  left-kept : take count out ≡ drop from (take end l)
  left-kept =
      let n : count ≡ end - from = ap (λ (m : Moved). m.count) moved in
      let sum : from + (end - from) ≡ end = omega arith in
      rw (ap (λ (m : Moved). m.contents) moved, n) (take_at (take (end - from) (drop from l)) (drop (end - from) l)
      (end - from) there)
      ∙ sym (ap (λ (m : ℕ). drop from (take m l)) (sym sum) ∙ turns.part_left from (end - from) l (omega arith))

  left-fits : length out ≡ length l → count ≤ length out
  left-fits same = omega (arith, ap (λ (m : Moved). m.count) moved)

module _ (before : Reading) (mine : ℕ) (ours : List ℕ) (other : ℕ) (theirs : List ℕ) (p : ProgressCode)
    (mine-fits : mine ≤ length ours) (other_fits : other ≤ length theirs)
    (e : progress_in p ≡ advanced before.place (take (mine - 0) ours) (take (other - 0) theirs)) where
  same : progress_in p ≡ advanced before.place (take mine ours) (take other theirs)
  same = rw (sub-zero mine, sub-zero other) at e

  went-by : (input : List ℕ) → compared_on (kept_in (counted before mine other) input ours theirs)
      ≡ stepped_by (leaving (kept_in (counted before mine other) input ours theirs) (progress_in p)) (found_of p.found)
  unfolding compared_on
  went-by input = ap (λ (q : Progress). stepped_by (leaving (kept_in (counted before mine other) input ours theirs) q)
      q.found) (sym same)

  used : (p.ours ≤ mine) × (p.theirs ≤ other)
  used =
      let w = used-within before.place (take mine ours) (take other theirs) in (
        omega (arith, w.0, ap (λ (q : Progress). q.ours) same, length-take-le mine ours mine-fits),
        omega (arith, w.1, ap (λ (q : Progress). q.theirs) same, length-take-le other theirs other_fits),
      )

  pub ended-advances : {verdict : Verdict} → p.found ≡ Some verdict →
      Advances before mine ours other theirs
      (record {
        stream = before.stream;
        ours = mine;
        theirs = other;
        more = before.more;
        place = before.place;
        found = Some verdict;
      }) ours theirs
  ended-advances h = record {
    stream = refl;
    ours-fit = mine-fits;
    theirs-fit = other_fits;
    went = λ input.
        sym (went-by input ∙ ap (λ (f : Option Verdict). stepped_by (leaving (kept_in (counted before mine other) input ours theirs) (progress_in p))
        (found_of f)) h);
  }

  pub going-advances : p.found ≡ None → (n m : ℕ) (o t : List ℕ) → kept n o ≡ kept_over p.ours mine ours →
      kept m t ≡ kept_over p.theirs other theirs →
      length o ≡ length ours → length t ≡ length theirs →
      Advances before mine ours other theirs
      (record {
        stream = before.stream;
        ours = n;
        theirs = m;
        more = before.more;
        place = p.place;
        found = None;
      }) o t
  going-advances h n m o t a b c d = record {
    stream = refl;
    ours-fit = left-fits p.ours mine n ours o used.0 mine-fits a c;
    theirs-fit = left-fits p.theirs other m theirs t used.1 other_fits b d;
    went = λ input.
        rw (
          left-kept p.ours mine n ours o used.0 mine-fits a,
          left-kept p.theirs other m theirs t used.1 other_fits b,
        )
        (sym (went-by input ∙ ap (λ (f : Option Verdict). stepped_by (leaving (kept_in (counted before mine other) input ours theirs) (progress_in p))
        (found_of f)) h));
  }

-- ---- what was read behind what waits

-- so many bytes of a buffer with a part put behind the first
take_put : (w n : ℕ) (l part : List ℕ) → w ≤ length l → n ≤ length part → take (w + n) (put_mid w (length l - w) l part)
    ≡ take w l ++ take n part
take_put w n l part h k =
    take-add w n (put_mid w (length l - w) l part)
    ∙ rw (
      kept-stays w l part h,
      drop_at (take w l) (part ++ post_of w (length l - w) l) w (length-take-le w l h),
      take-append-le n part (post_of w (length l - w) l) k,
    )

module _ (before : Reading) (input ours theirs part : List ℕ) (brought : ℕ) (ready : Ready (length input) (length ours)
    (length theirs) before)
    (wanted : wants before.ours before.stream.more ≡ true) (sized : length part
    ≡ length (mid_of before.stream.kept (length input - before.stream.kept) input))
    (few : brought ≤ length part) where
  -- what the input holds when something was read behind what is kept, and where our answers go
  abbrev filled : List ℕ
  filled = put_mid before.stream.kept (length input - before.stream.kept) input part

  abbrev rest : List ℕ
  rest = mid_of before.ours (length ours - before.ours) ours

  read : List ℕ
  read = take brought (drop before.stream.kept filled)

  short : before.ours < longest_answer
  unfolding wants
  short = ltb-true before.ours longest_answer (and_left (ltb before.ours longest_answer) before.stream.more wanted)

  more-scenes : before.stream.more ≡ true
  unfolding wants
  more-scenes = and_right (ltb before.ours longest_answer) before.stream.more wanted

  room : has_room_for (length filled) (length rest) before.stream.kept brought ≡ true
  unfolding has_room_for
  room =
      let size : length filled ≡ length input =
      same_len_mid before.stream.kept (length input - before.stream.kept) input part sized in
      let space : length rest ≡ length ours - before.ours = turns.mid-length before.ours ours in
      let lies : before.stream.kept + brought ≤ length input = omega (
        arith,
        ready.few,
        ready.long,
        sized
            ∙ turns.mid-length before.stream.kept input,
      ) in
      rw (
        size,
        space,
        le-leb (2 * length input + longest_answer) (length ours - before.ours)
            (omega (arith, ready.room, short)),
        le-leb (before.stream.kept + brought) (length input) lies,
      ) refl

  module _ (next : Stream) (held out : List ℕ) (e : lent next held out ≡ turn_over filled rest before.stream brought) where
    abbrev step : Turned
    step = turned (take before.stream.kept input) before.stream.skip read

    parts : (take next.put out ≡ step.answers) × (take next.kept held ≡ step.kept) × (next.skip ≡ step.skip)
        × (next.more ≡ step.more)
    unfolding read
    parts =
        rw (kept-stays before.stream.kept input part (omega (arith, ready.few, ready.long))) at
        (turns.lent-parts (turned (take before.stream.kept filled) before.stream.skip read) filled rest held out
        next (e ∙ turns.stepped filled rest before.stream brought room))

    pub put-fits : next.put ≤ length out
    put-fits = turns.put-fits filled rest held out before.stream next brought e

    abbrev answered : List ℕ
    answered = put_mid before.ours (length ours - before.ours) ours out

    abbrev handed : Reading
    handed = record {
      stream = next;
      ours = before.ours;
      theirs = before.theirs;
      more = before.more;
      place = before.place;
      found = before.found;
    }

    kept_same : kept_in (counted handed (before.ours + next.put) before.theirs) held answered theirs
        ≡ with_scenes (kept_in before input ours theirs) read
    kept_same = rw (
      take_put before.ours next.put ours out ready.ours-fit put-fits,
      parts.0,
      parts.1,
      parts.2,
      parts.3,
    ) refl

    pub scenes-follow : (r : Reading) (o t : List ℕ) →
        Advances handed (before.ours + next.put) answered before.theirs theirs r o t →
        Follows before input ours theirs r held o t
    scenes-follow r o t a = of-scenes more-scenes read (a.went held ∙ ap compared_on kept_same)

    module _ (spare : length out ≡ length rest) where
      answered-length : length answered ≡ length ours
      answered-length = same_len_mid before.ours (length ours - before.ours) ours out spare

      pub mine-fits : before.ours + next.put ≤ length answered
      mine-fits = omega (arith, put-fits, spare, turns.mid-length before.ours ours, answered-length, ready.ours-fit)

      pub held-length : length held ≡ length filled → length held ≡ length input
      held-length x = x ∙ same_len_mid before.stream.kept (length input - before.stream.kept) input part sized

      pub scenes-ready : (r : Reading) (o t : List ℕ) →
          Advances handed (before.ours + next.put) answered before.theirs theirs r o t →
          length held ≡ length filled → length o ≡ length answered → length t ≡ length theirs →
          Ready (length held) (length o) (length t) r
      scenes-ready r o t a x y z = record {
        long = omega (arith, ready.long, held-length x);
        room = omega (arith, ready.room, held-length x, answered-length);
        wide = omega (arith, ready.wide);
        few = omega (
          arith,
          turns.keeps-few filled rest held out before.stream next brought e,
          ap (λ (s : Stream). s.kept) a.stream,
        );
        ours-fit = a.ours-fit;
        theirs-fit = a.theirs-fit;
      }

some-brought : (n : ℕ) (part : List ℕ) → n ≤ length part → ltb 0 n ≡ is_some (take n part)
some-brought zero part h = refl
some-brought (suc n) [] h = absurd (omega arith)
some-brought (suc n) (b ∷ part) h = lt-ltb 0 (suc n) (omega arith)

module _ (before : Reading) (input ours theirs part : List ℕ) (brought : ℕ) (ready : Ready (length input) (length ours)
    (length theirs) before) (few : brought ≤ length part) where
  abbrev filled-theirs : List ℕ
  filled-theirs = put_mid before.theirs (length theirs - before.theirs) theirs part

  abbrev heard : Reading
  heard = record {
    stream = before.stream;
    ours = before.ours;
    theirs = before.theirs;
    more = ltb 0 brought;
    place = before.place;
    found = before.found;
  }

  kept-heard : kept_in (counted heard before.ours (before.theirs + brought)) input ours filled-theirs
      ≡ with_answers (kept_in before input ours theirs) (take brought part)
  kept-heard = rw (take_put before.theirs brought theirs part ready.theirs-fit few, some-brought brought part few) refl

  pub other_fits : length part ≡ length (mid_of before.theirs (length theirs - before.theirs) theirs) →
      before.theirs + brought ≤ length filled-theirs
  other_fits sized =
      omega (
        arith,
        few,
        sized,
        turns.mid-length before.theirs theirs,
        same_len_mid before.theirs (length theirs - before.theirs) theirs part sized,
        ready.theirs-fit,
      )

  module _ (r : Reading) (o t : List ℕ)
      (a : Advances heard before.ours ours (before.theirs + brought) filled-theirs r o t) where
    pub answers-follow : Follows before input ours theirs r input o t
    answers-follow = of-answers (take brought part) (a.went input ∙ ap compared_on kept-heard)

    pub answers-ready : length part ≡ length (mid_of before.theirs (length theirs - before.theirs) theirs) →
        length o ≡ length ours → length t ≡ length filled-theirs → Ready (length input) (length o) (length t) r
    answers-ready sized y z = record {
      long = ready.long;
      room = omega (arith, ready.room);
      wide = omega (arith, ready.wide, same_len_mid before.theirs (length theirs - before.theirs) theirs part sized);
      few = omega (arith, ready.few, ap (λ (s : Stream). s.kept) a.stream);
      ours-fit = a.ours-fit;
      theirs-fit = a.theirs-fit;
    }

-- ---- the end of a run

module _ (before next : Reading) (input ours theirs : List ℕ) (ready : Ready (length input) (length ours)
    (length theirs) before) where
  pub end-follows : (verdict : Verdict) → wants before.ours before.stream.more ≡ false →
      wants before.theirs before.more ≡ false →
      compared_of verdict ≡ compared_from before.place (take (before.ours - 0) ours) (take (before.theirs - 0) theirs) →
      next.found ≡ Some verdict →
      Follows before input ours theirs next input ours theirs
  end-follows verdict a b e h =
      at-end (rw (length-take-le before.ours ours ready.ours-fit) a)
      (rw (length-take-le before.theirs theirs ready.theirs-fit) b)
      (ap found_of h ∙ ap Some (rw (sub-zero before.ours, sub-zero before.theirs) at e))

-- ---- buffers and what is kept as they were

pub stays-ready : {before next : Reading} {i o t j p u : ℕ} → Ready i o t before → j ≡ i → p ≡ o → u ≡ t →
    next.stream.kept ≡ before.stream.kept → next.ours ≡ before.ours → next.theirs ≡ before.theirs → Ready j p u next
stays-ready r a b c d e f = record {
  long = omega (arith, r.long);
  room = omega (arith, r.room);
  wide = omega (arith, r.wide);
  few = omega (arith, r.few);
  ours-fit = omega (arith, r.ours-fit);
  theirs-fit = omega (arith, r.theirs-fit);
}

-- With the buffers of the start, a run begins.
pub begins : (input ours theirs : List ℕ) → kept_in beginning input ours theirs ≡ start
begins input ours theirs = refl
