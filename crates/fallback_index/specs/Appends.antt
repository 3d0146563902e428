-- An append: the index of a log, brought up to date for one record more, as a function of just the parts that it rests on and
-- of a whole log and index (02, T-10). Definitions only. Assumes nothing.
use Rattle.std.specs.Prelude.{ℕ, ◌+◌, ◌%◌, Bool, true, List, [], ◌++◌, eqb, leb, length, take, drop, Result, Ok, Err}
use Rattle.arithmetic.specs.Binary32.{when◌then◌else◌}
use Rattle.admission.specs.Faults.{Fault, must, ◌⊳◌, unless_fault}
use Rattle.answer_records.specs.Replies as said
use Rattle.answer_records.specs.Replies.{Said, answer_in}
use Rattle.answer_logs.specs.Logs.{outcome, refusal}
use Rattle.log_walks.specs.Figures.{fallback}
use Rattle.log_walks.specs.Walks.{Met}
use Rattle.index_building.specs.declared.Extent.{Extent}
use Rattle.index_building.specs.Indexes.{apart, head_bytes, greatest, index_length, new_entry, head, IndexWritten, Standing, standing, refused_over, laid_over}
use Rattle.index_building.specs.Builds.{extent}
use Rattle.fallback_index.specs.Questions.{Fallbacks, named_count, before, question_of, head_in, entry_in, stretch_in}

-- ---- an append's numbers by its parts

-- an entry's number of fallbacks counts only where there is an entry
unfoldable pub new_entry_fits : ℕ → ℕ → ℕ → Bool
new_entry_fits most count fallbacks_before = when eqb (count % apart) 0 then leb fallbacks_before most else true

-- a build's refusal 4: log length, count and fallbacks are those with the new record
unfoldable pub grown_fault : ℕ → ℕ → ℕ → ℕ → Fault
grown_fault most log_length count fallbacks_before =
    must (leb log_length most) 4 ⊳ must (leb count most) 4 ⊳ must (new_entry_fits most count fallbacks_before) 4

-- the log's length, the count and the fallbacks, all with the new record, or the number of a refusal
abbrev pub Update : Type 0
Update = Result Extent ℕ

unfoldable pub grown : ℕ → ℕ → ℕ → ℕ → Update
grown most log_length count fallbacks_before =
    unless_fault Err (grown_fault most log_length count fallbacks_before) (Ok (extent log_length count fallbacks_before))

-- the record "as 01's answer reader reads one", behind `count` records with so many fallbacks
abbrev pub grown_by : ℕ → ℕ → ℕ → ℕ → Said → Update
grown_by most log_length count fallbacks_before (said.outcome a) =
    grown most log_length (count + 1) (fallbacks_before + fallback (outcome a))
grown_by most log_length count fallbacks_before (said.refusal n) =
    grown most log_length (count + 1) (fallbacks_before + fallback (refusal n))
grown_by most log_length count fallbacks_before (said.unreadable r) = Err r

-- what the question refuses; else the fallbacks found before the log's end
abbrev pub asked : Fallbacks → Met → Met
asked (Err r) m = Err r
asked (Ok n) m = m

abbrev pub unless_bad : (ℕ → Update) → Met → Update
unless_bad go (Err r) = Err r
unless_bad go (Ok n) = go n

-- "a question's for 0 and the record count, then a build's for the new record": the entries for 0 and at or before the log's end,
-- and the log from where that one points
unfoldable pub update_of : ℕ → ℕ → ℕ → List ℕ → List ℕ → List ℕ → List ℕ → List ℕ → Update
update_of most log_length length' head first last stretch new =
    unless_bad (λ n. grown_by most (log_length + length new) (named_count head) n (answer_in new))
    (asked (question_of log_length length' head first last [] stretch 0 (named_count head))
    (before (named_count head % apart) last stretch))

-- ---- the parts of a whole log and index

unfoldable pub update_in : ℕ → List ℕ → List ℕ → List ℕ → Update
update_in most log index new =
    let count = named_count (head_in index) in
    update_of most (length log) (length index) (head_in index) (entry_in index 0) (entry_in index count)
    (stretch_in log (entry_in index count) count) new

-- ---- the update of a lent buffer

-- the index for one record more, by the old one's entries
unfoldable pub updated : ℕ → ℕ → ℕ → List ℕ → List ℕ
updated log_length count fallbacks_before old =
    head log_length count ++ (drop head_bytes old ++ new_entry count log_length fallbacks_before)

abbrev pub updated_over : List ℕ → ℕ → Update → Standing IndexWritten
updated_over buffer n (Err r) = refused_over buffer r
updated_over buffer n (Ok x) =
    unless_fault (refused_over buffer) (must (leb (index_length x.records) (length buffer)) 10)
    (standing (Ok (index_length x.records)) (laid_over (updated x.bytes x.records x.fallbacks (take n buffer)) buffer))

-- the greatest number that an index may hold is an argument
unfoldable pub appended_up_to : ℕ → List ℕ → List ℕ → ℕ → List ℕ → Standing IndexWritten
appended_up_to most log buffer n new =
    unless_fault (refused_over buffer) (must (leb n (length buffer)) 2)
    (updated_over buffer n (update_in most log (take n buffer) new))

unfoldable pub appended_over : List ℕ → List ℕ → ℕ → List ℕ → Standing IndexWritten
appended_over log buffer n new = appended_up_to greatest log buffer n new
