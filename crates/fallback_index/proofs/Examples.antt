-- Small logs and their indexes, computed: questions and appends of the readings' examples, each refusal and its order,
-- the limit 4 at a small one (02, T-10). Assumes nothing.
use mathlib.Core.Path.{◌≡◌, refl}
use mathlib.Core.List.{[], ◌∷◌, ◌++◌}
use lib.ListN.{take, replicate}
use Rattle.answer_logs.proofs.Worked.{refused_scene}
use Rattle.std.specs.Prelude.{Ok, Err}
use Rattle.log_walks.specs.Walks.{walked}
use Rattle.index_building.specs.Indexes.{standing}
use Rattle.index_building.proofs.Examples.{computed as building, short, long, empty_index, short_index, long_index}
use Rattle.fallback_index.specs.Questions.{head_fault, range_fault, places_fault, before, question_of, head_in, entry_in, stretch_in, question_in}
use Rattle.fallback_index.specs.Appends.{new_entry_fits, grown_fault, grown, updated, update_of, update_in, appended_up_to, appended_over}

-- what computing needs
unfoldable computed : Unit {0}
unfolding building walked head_fault range_fault places_fault before question_of head_in entry_in stretch_in question_in
    new_entry_fits grown_fault grown updated update_of update_in appended_up_to appended_over
computed = tt

-- ---- questions

short-whole : question_in short short_index 0 2 ≡ Ok 1
unfolding computed
short-whole = refl

short-last : question_in short short_index 1 2 ≡ Ok 0
unfolding computed
short-last = refl

short-first : question_in short short_index 0 1 ≡ Ok 1
unfolding computed
short-first = refl

short-end : question_in short short_index 2 2 ≡ Ok 0
unfolding computed
short-end = refl

long-whole : question_in long long_index 0 64 ≡ Ok 0
unfolding computed
long-whole = refl

no_index : question_in short (0 ∷ 0 ∷ 0 ∷ []) 0 0 ≡ Err 2
unfolding computed
no_index = refl

no-version : question_in short (0 ∷ 0 ∷ 0 ∷ 0 ∷ []) 0 0 ≡ Err 2
unfolding computed
no-version = refl

other-version : question_in short (0 ∷ 0 ∷ 0 ∷ 1 ∷ 2 ∷ []) 0 0 ≡ Err 1
unfolding computed
other-version = refl

other_length : question_in short (0 ∷ 0 ∷ 0 ∷ 2 ∷ 2 ∷ []) 0 0 ≡ Err 2
unfolding computed
other_length = refl

no_fields : question_in short (0 ∷ 0 ∷ 0 ∷ 1 ∷ 1 ∷ []) 0 0 ≡ Err 2
unfolding computed
no_fields = refl

no-entry : question_in short (0 ∷ 0 ∷ 0 ∷ 9 ∷ 1 ∷ 0 ∷ 0 ∷ 0 ∷ 22 ∷ 0 ∷ 0 ∷ 0 ∷ 2 ∷ []) 0 0 ≡ Err 2
unfolding computed
no-entry = refl

-- 12 before 13
other-log : question_in (take 21 short) short_index 1 0 ≡ Err 12
unfolding computed
other-log = refl

wrong-order : question_in short short_index 1 0 ≡ Err 13
unfolding computed
wrong-order = refl

past_end : question_in short short_index 0 3 ≡ Err 13
unfolding computed
past_end = refl

-- an offset at the end is no fault, but no record stands there
at-end : question_in short (0 ∷ 0 ∷ 0 ∷ 17 ∷ 1 ∷ 0 ∷ 0 ∷ 0 ∷ 22 ∷ 0 ∷ 0 ∷ 0 ∷ 2 ∷ 0 ∷ 0 ∷ 0 ∷ 22 ∷ 0 ∷ 0 ∷ 0 ∷ 0
    ∷ []) 0 0 ≡ Ok 0
unfolding computed
at-end = refl

none-at-end : question_in short (0 ∷ 0 ∷ 0 ∷ 17 ∷ 1 ∷ 0 ∷ 0 ∷ 0 ∷ 22 ∷ 0 ∷ 0 ∷ 0 ∷ 2 ∷ 0 ∷ 0 ∷ 0 ∷ 22 ∷ 0 ∷ 0 ∷ 0 ∷ 0
    ∷ []) 1 1 ≡ Err 2
unfolding computed
none-at-end = refl

beyond : question_in short (0 ∷ 0 ∷ 0 ∷ 17 ∷ 1 ∷ 0 ∷ 0 ∷ 0 ∷ 22 ∷ 0 ∷ 0 ∷ 0 ∷ 2 ∷ 0 ∷ 0 ∷ 0 ∷ 23 ∷ 0 ∷ 0 ∷ 0 ∷ 0
    ∷ []) 0 0 ≡ Err 2
unfolding computed
beyond = refl

-- fewer before b than before a
fewer : question_in long (0 ∷ 0 ∷ 0 ∷ 25 ∷ 1 ∷ 0 ∷ 0 ∷ 1 ∷ 0 ∷ 0 ∷ 0 ∷ 0 ∷ 64 ∷ 0 ∷ 0 ∷ 0 ∷ 0 ∷ 0 ∷ 0 ∷ 0 ∷ 1 ∷ 0 ∷ 0 ∷ 1
    ∷ 0 ∷ 0 ∷ 0 ∷ 0 ∷ 0 ∷ []) 0 64 ≡ Err 2
unfolding computed
fewer = refl

-- ---- appends

first-appended : appended_over [] (empty_index ++ (9 ∷ [])) 21 refused_scene
    ≡ standing (Ok 21) (0 ∷ 0 ∷ 0 ∷ 17 ∷ 1 ∷ 0 ∷ 0 ∷ 0 ∷ 4 ∷ 0 ∷ 0 ∷ 0 ∷ 1 ∷ 0 ∷ 0 ∷ 0 ∷ 0 ∷ 0 ∷ 0 ∷ 0 ∷ 0 ∷ 9
    ∷ [])
unfolding computed
first-appended = refl

-- the 64th record
entry-added : appended_over (take 252 long) ((0 ∷ 0 ∷ 0 ∷ 17 ∷ 1 ∷ 0 ∷ 0 ∷ 0 ∷ 252 ∷ 0 ∷ 0 ∷ 0 ∷ 63 ∷ 0 ∷ 0 ∷ 0 ∷ 0 ∷ 0
    ∷ 0 ∷ 0 ∷ 0 ∷ []) ++ replicate 9 9) 21 refused_scene ≡ standing (Ok 29) (long_index ++ (9 ∷ []))
unfolding computed
entry-added = refl

entry-no-room : appended_over (take 252 long) ((0 ∷ 0 ∷ 0 ∷ 17 ∷ 1 ∷ 0 ∷ 0 ∷ 0 ∷ 252 ∷ 0 ∷ 0 ∷ 0 ∷ 63 ∷ 0 ∷ 0 ∷ 0 ∷ 0 ∷ 0
    ∷ 0 ∷ 0 ∷ 0 ∷ []) ++ replicate 7 9) 21 refused_scene
    ≡ standing (Err 10) ((0 ∷ 0 ∷ 0 ∷ 17 ∷ 1 ∷ 0 ∷ 0 ∷ 0 ∷ 252 ∷ 0 ∷ 0 ∷ 0 ∷ 63 ∷ 0 ∷ 0 ∷ 0 ∷ 0 ∷ 0 ∷ 0 ∷ 0
    ∷ 0 ∷ []) ++ replicate 7 9)
unfolding computed
entry-no-room = refl

longer-than-buffer : appended_over [] empty_index 22 refused_scene ≡ standing (Err 2) empty_index
unfolding computed
longer-than-buffer = refl

leftover-appended : appended_over [] empty_index 21 (0 ∷ 2 ∷ 2 ∷ 134 ∷ 0 ∷ []) ≡ standing (Err 2) empty_index
unfolding computed
leftover-appended = refl

none-appended : appended_over [] empty_index 21 [] ≡ standing (Err 2) empty_index
unfolding computed
none-appended = refl

limit-appended : appended_up_to 3 [] empty_index 21 refused_scene ≡ standing (Err 4) empty_index
unfolding computed
limit-appended = refl
