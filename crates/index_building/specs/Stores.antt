-- New numbers stored over the bytes of an index of a record less (02, T-10). Definitions only. Assumes nothing.
use Rattle.std.specs.Prelude.{ℕ, ◌+◌, List, ◌++◌, leb, length, Ok}
use Rattle.std.proofs.lemmas.List.Edits.{sets}
use Rattle.admission.specs.Faults.{Fault, must, ◌⊳◌, unless_fault}
use Rattle.index_building.specs.Indexes.{greatest, start_bytes, index_length, entry_place, head, new_entry, IndexWritten, Standing, standing, refused_over, laid_over}

-- "4 if a number of the index would pass 4,294,967,295, 10 if the index does not fit the buffer"
unfoldable pub store_fault : ℕ → ℕ → ℕ → Fault
store_fault room log_length count =
    must (leb log_length greatest) 4 ⊳ must (leb count greatest) 4 ⊳ must (leb (index_length count) room) 10

-- the fields before the entries, and behind the entries of a record less the one that the count calls for
unfoldable pub stored_over : List ℕ → ℕ → ℕ → ℕ → Standing IndexWritten
stored_over buffer log_length count before =
    unless_fault (refused_over buffer) (store_fault (length buffer) log_length count)
    (standing (Ok (index_length count))
    (sets (sets buffer 0 (head log_length count)) (entry_place (count + 63)) (new_entry count log_length before)))

-- ---- the same for a host that keeps the entries elsewhere

-- the fields before the entries, and behind them the entry that the count calls for, if any: the entries of a record less belong
-- in between
unfoldable pub ends_of : ℕ → ℕ → ℕ → List ℕ
ends_of log_length count before = head log_length count ++ new_entry count log_length before

unfoldable pub ends_fault : ℕ → ℕ → ℕ → Fault
ends_fault room log_length count = must (leb log_length greatest) 4 ⊳ must (leb count greatest) 4 ⊳ must (leb start_bytes room) 10

unfoldable pub ends_over : List ℕ → ℕ → ℕ → ℕ → Standing IndexWritten
ends_over buffer log_length count before =
    unless_fault (refused_over buffer) (ends_fault (length buffer) log_length count)
    (standing (Ok (length (ends_of log_length count before))) (laid_over (ends_of log_length count before) buffer))
