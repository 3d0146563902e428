-- However both files are cut into reads, the verdict is that of the wholes. Assumes nothing.
use Rattle.std.specs.Prelude.{Option, Some, None}
use Prim.Native.Nat.{ℕ}
use native.Mathlib.Omega.{arith}
use mathlib.Core.Path.{◌≡◌, refl, sym, ap, ◌∙◌}
use mathlib.Core.Logic.{inl, inr, ⊎_elim}
use mathlib.Core.Bool.{Bool, true, false, false≢true}
use mathlib.Core.List.{List, [], ◌∷◌, ◌++◌, append_assoc, append-nil}
use lib.ListN.{length, drop}
use borrow.Author.Tests.{lt-ltb}
use Rattle.arithmetic.specs.Binary32.{when◌then◌else◌}
use Rattle.answer_records.specs.Answers.{longest_answer}
use Rattle.answer_logs.specs.Logs.{found_in}
use Rattle.answer_logs.specs.Parts.{waits}
use Rattle.answer_logs.proofs.CutLaws.{found-append, waiting_few}
use Rattle.records.specs.Streams.{unlimited, stopped, worked, last_answer, answers_from}
use Rattle.records.proofs.RunLaws.{worked-out, cut-answers, nothing_read}
use Rattle.comparison.specs.Verdicts.{Compared, Progress}
use Rattle.comparison.specs.Comparing.{turn_of, told_in, compared_from, compared_logs, compared, advanced}
use Rattle.comparison.specs.Reads.{Kept, start, with_scenes, with_answers, told, goes_on, leaving, stepped_by, compared_on, wants, Runs, scenes-told, scenes-on, answers-told, answers-on, enough}
use Rattle.comparison.proofs.PlaceLaws.{last-place}
use Rattle.comparison.proofs.PartLaws.{waits-ends, Waiting, advance-cut, going-waits, if_going}

-- ---- what is left to compare

-- the answers to the scenes that are left
abbrev answers_left : Kept → List ℕ → List ℕ
answers_left k scenes = when k.more_scenes then answers_from k.skip (k.scenes ++ scenes) else []

abbrev left_over : Kept → List ℕ → List ℕ → Compared
left_over k scenes answers = compared_from k.place (k.ours ++ answers_left k scenes) (k.theirs ++ answers)

-- what is kept of the scenes is worked; a file at its end has nothing left
record Sound (k : Kept) (scenes answers : List ℕ) : Type 0 where
  pub still : worked unlimited k.skip k.scenes ≡ stopped k.skip
  pub no-scenes : k.more_scenes ≡ false → scenes ≡ []
  pub no-answers : k.more_answers ≡ false → answers ≡ []

-- ---- a read

last-ours : (k : Kept) → worked unlimited k.skip k.scenes ≡ stopped k.skip →
    answers_from k.skip (k.scenes ++ []) ≡ last_answer (length k.scenes)
unfolding answers_from
last-ours k e = rw (append-nil k.scenes, e) refl

module _ (k : Kept) (rest answers : List ℕ) (open-still : k.more_scenes ≡ true) where
  scenes-left : (read : List ℕ) → (read ≡ [] → rest ≡ []) → worked unlimited k.skip k.scenes ≡ stopped k.skip →
      left_over k (read ++ rest) answers ≡ left_over (with_scenes k read) rest answers
  unfolding when◌then◌else◌
  scenes-left [] none e =
      ap (λ (b : Bool). compared_from k.place
      (k.ours ++ (when b then answers_from k.skip (k.scenes ++ rest) else [])) (k.theirs ++ answers)) open-still
      ∙ ap (λ (l : List ℕ). compared_from k.place (k.ours ++ l) (k.theirs ++ answers))
      (ap (λ (l : List ℕ). answers_from k.skip (k.scenes ++ l)) (none refl) ∙ last-ours k e)
      ∙ ap (λ (l : List ℕ). compared_from k.place l (k.theirs ++ answers))
      (sym (append-nil (k.ours ++ last_answer (length k.scenes))))
  scenes-left (b ∷ read) none e =
      let s = k.scenes ++ (b ∷ read) in
      let w = worked unlimited k.skip s in
      ap (λ (x : Bool). compared_from k.place
      (k.ours ++ (when x then answers_from k.skip (k.scenes ++ ((b ∷ read) ++ rest)) else []))
      (k.theirs ++ answers)) open-still
      ∙ ap (λ (l : List ℕ). compared_from k.place (k.ours ++ l) (k.theirs ++ answers))
      (ap (answers_from k.skip) (sym (append_assoc k.scenes (b ∷ read) rest)) ∙ sym (cut-answers k.skip s rest))
      ∙ ap (λ (l : List ℕ). compared_from k.place l (k.theirs ++ answers))
      (sym (append_assoc k.ours w.answers (answers_from w.skip (drop w.used s ++ rest))))

  scenes-sound : (read scenes : List ℕ) → (read ≡ [] → rest ≡ []) → Sound k scenes answers →
      Sound (with_scenes k read) rest answers
  scenes-sound [] scenes none h = record { still = nothing_read; no-scenes = λ e. none refl; no-answers = h.no-answers }
  scenes-sound (b ∷ read) scenes none h =
      record {
        still = worked-out k.skip (k.scenes ++ (b ∷ read));
        no-scenes = λ e. absurd (false≢true (sym e));
        no-answers = h.no-answers;
      }

module _ (k : Kept) (scenes rest : List ℕ) where
  answers-left : (read : List ℕ) → left_over k scenes (read ++ rest) ≡ left_over (with_answers k read) scenes rest
  answers-left read = ap (compared_from k.place (k.ours ++ answers_left k scenes)) (sym (append_assoc k.theirs read rest))

  answers-sound : (read answers : List ℕ) → (read ≡ [] → rest ≡ []) → Sound k scenes answers →
      Sound (with_answers k read) scenes rest
  answers-sound [] answers none h = record { still = h.still; no-scenes = h.no-scenes; no-answers = λ e. none refl }
  answers-sound (b ∷ read) answers none h = record {
    still = h.still;
    no-scenes = h.no-scenes;
    no-answers = λ e. absurd (false≢true (sym e));
  }

-- ---- the comparison of what is kept

module _ (k : Kept) (scenes answers : List ℕ) where
  abbrev step : Progress
  step = advanced k.place k.ours k.theirs

  by-found : (f : Option Compared) → step.found ≡ f → left_over k scenes answers
      ≡ if_going [] [] (left_over (leaving k step) scenes answers) f
  by-found f e =
      advance-cut (answers_left k scenes) answers k.place k.ours k.theirs
      ∙ ap (if_going [] [] (left_over (leaving k step) scenes answers)) e

  told-as : (f : Option Compared) → step.found ≡ f → (verdict : Compared) → stepped_by (leaving k step) f ≡ told verdict →
      left_over k scenes answers ≡ verdict
  told-as None e verdict h = absurd (let z : ◌≡◌ {A = ℕ} 0 1 = cc in omega arith)
  told-as (Some v) e verdict h = by-found (Some v) e ∙ (let same : v ≡ verdict = cc in same)

  step-told : (verdict : Compared) → compared_on k ≡ told verdict → left_over k scenes answers ≡ verdict
  unfolding compared_on
  step-told verdict h = told-as step.found refl verdict h

  record Onward (next : Kept) : Type 0 where
    pub same : left_over k scenes answers ≡ left_over next scenes answers
    pub sound : Sound k scenes answers → Sound next scenes answers
    pub waiting : Waiting next.ours next.theirs

  left_behind : step.found ≡ None → Onward (leaving k step)
  left_behind e = record {
    same = by-found None e;
    sound = λ h. record { still = h.still; no-scenes = h.no-scenes; no-answers = h.no-answers };
    waiting = going-waits k.place k.ours k.theirs e;
  }

  onward-as : (f : Option Compared) → step.found ≡ f → (next : Kept) → stepped_by (leaving k step) f ≡ goes_on next → Onward next
  onward-as None e next h = let same : leaving k step ≡ next = cc in rw (← same) (left_behind e)
  onward-as (Some v) e next h = absurd (let z : ◌≡◌ {A = ℕ} 0 1 = cc in omega arith)

  step-on : (next : Kept) → compared_on k ≡ goes_on next → Onward next
  unfolding compared_on
  step-on next h = onward-as step.found refl next h

-- ---- the end of a run

-- a side that waits and wants no more is at its end
wants-none : (s : List ℕ) (more : Bool) → waits s ≡ true → wants (length s) more ≡ false → more ≡ false
unfolding wants
wants-none s more w h = rw (lt-ltb (length s) longest_answer (waiting_few s w)) at h

found-still : (s rest : List ℕ) → (waits s ≡ true → rest ≡ []) → (b : Bool) → waits s ≡ b → found_in (s ++ rest) ≡ found_in s
found-still s rest none true e = ap (λ (l : List ℕ). found_in (s ++ l)) (none e) ∙ ap found_in (append-nil s)
found-still s rest none false e = found-append s e rest

same_end : (place : ℕ) (o t more-ours more-theirs : List ℕ) → found_in (o ++ more-ours) ≡ found_in o →
    found_in (t ++ more-theirs) ≡ found_in t → Waiting o t →
    compared_from place o t ≡ compared_from place (o ++ more-ours) (t ++ more-theirs)
same_end place o t more-ours more-theirs p q w =
    let ends = ⊎_elim (λ a. inl (waits-ends o a)) (λ b. inr (waits-ends t b)) w in
    last-place place o t ends
    ∙ sym (last-place place (o ++ more-ours) (t ++ more-theirs) (rw (p, q) ends)
    ∙ ap (λ (f : _). told_in place (turn_of f (found_in (t ++ more-theirs)))) p
    ∙ ap (λ (f : _). told_in place (turn_of (found_in o) f)) q)

none_left : (k : Kept) (scenes : List ℕ) → k.more_scenes ≡ false → answers_left k scenes ≡ []
unfolding when◌then◌else◌
none_left k scenes e = rw e

-- ---- runs

run-told : {k : Kept} {scenes answers : List ℕ} {verdict : Compared} → Runs k scenes answers verdict →
    Sound k scenes answers → Waiting k.ours k.theirs → verdict ≡ left_over k scenes answers
run-told {k} {scenes} {answers} {verdict} (scenes-told {read = read} {rest = rest} m e none h) s w =
    sym (ap (λ (l : List ℕ). left_over k l answers) e ∙ scenes-left k rest answers m read none s.still
    ∙ step-told (with_scenes k read) rest answers verdict h)
run-told {k} {scenes} {answers} {verdict} (scenes-on {next = next} {read = read} {rest = rest} m e none h r) s w =
    let on = step-on (with_scenes k read) rest answers next h in
    run-told r (on.sound (scenes-sound k rest answers m read scenes none s)) on.waiting
    ∙ sym (ap (λ (l : List ℕ). left_over k l answers) e ∙ scenes-left k rest answers m read none s.still ∙ on.same)
run-told {k} {scenes} {answers} {verdict} (answers-told {read = read} {rest = rest} e none h) s w =
    sym (ap (left_over k scenes) e ∙ answers-left k scenes rest read ∙ step-told (with_answers k read) scenes rest verdict h)
run-told {k} {scenes} {answers} {verdict} (answers-on {next = next} {read = read} {rest = rest} e none h r) s w =
    let on = step-on (with_answers k read) scenes rest next h in
    run-told r (on.sound (answers-sound k scenes rest read answers none s)) on.waiting
    ∙ sym (ap (left_over k scenes) e ∙ answers-left k scenes rest read ∙ on.same)
run-told {k} {scenes} {answers} {verdict} (enough o t) s w =
    same_end k.place k.ours k.theirs (answers_left k scenes) answers
    (found-still k.ours (answers_left k scenes) (λ a. none_left k scenes (wants-none k.ours k.more_scenes a o))
    (waits k.ours) refl)
    (found-still k.theirs answers (λ a. s.no-answers (wants-none k.theirs k.more_answers a t))
    (waits k.theirs) refl) w

-- However the scenes and the answers are cut into reads, and in whatever order these come, a run tells `compared` of
-- the two files.
pub any-files : (scenes answers : List ℕ) (verdict : Compared) → Runs start scenes answers verdict →
    verdict ≡ compared scenes answers
unfolding compared compared_logs waits when◌then◌else◌
any-files scenes answers verdict r =
    run-told r (record {
      still = nothing_read;
      no-scenes = λ e. absurd (false≢true (sym e));
      no-answers = λ e. absurd (false≢true (sym e));
    }) (inl refl)
