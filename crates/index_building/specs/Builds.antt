-- A build: of a log that is lent whole; and of one that comes in parts, by a step over each and an end (02, T-10).
-- Definitions only. Assumes nothing.
use Rattle.std.specs.Prelude.{ℕ, ◌+◌, eqb, leb, length, Result, Ok, Err}
use mathlib.Core.List.{List, [], ◌∷◌, ◌++◌, foldl}
use Rattle.admission.specs.Faults.{Fault, must, ◌⊳◌, unless_fault}
use Rattle.answer_logs.specs.Logs.{Entry, Records, whole, refused_at}
use Rattle.answer_logs.specs.Parts.{Wholes, reached, stopped}
use Rattle.log_walks.specs.Figures.{fallback, size_of}
use Rattle.log_walks.specs.Parts.{records_of, wholes_of}
use Rattle.index_building.specs.declared.Extent.{Extent}
use Rattle.index_building.specs.declared.PartBuilt.{PartBuilt}
use Rattle.index_building.specs.Indexes.{greatest, start_of, new_entry, index_of, IndexWritten, Standing, standing, refused_over, put_over, put_index}

-- ---- a log lent whole

-- "1 or 2 at a bad record, 4 if a number of the index would pass 4,294,967,295, 10 if the index does not fit the
-- buffer". The greatest number is an argument: offsets, count and fallbacks are no greater than the log's length
abbrev pub built_by : ℕ → List ℕ → List ℕ → Records → Standing IndexWritten
built_by most log buffer (refused_at r place) = refused_over buffer r
built_by most log buffer (whole l) =
    unless_fault (refused_over buffer) (must (leb (length log) most) 4) (put_index (index_of (length log) l) buffer)

unfoldable pub built_up_to : ℕ → List ℕ → List ℕ → Standing IndexWritten
built_up_to most log buffer = built_by most log buffer (records_of log)

unfoldable pub built_over : List ℕ → List ℕ → Standing IndexWritten
built_over log buffer = built_up_to greatest log buffer

-- ---- how far a build came: the bytes, the records and the fallbacks so far

abbrev pub extent : ℕ → ℕ → ℕ → Extent
extent b n m = record { bytes = b; records = n; fallbacks = m }

abbrev pub at_start : Extent
at_start = extent 0 0 0

-- with one record more
unfoldable pub with_record : Extent → Entry → Extent
with_record x e = extent (x.bytes + size_of e) (x.records + 1) (x.fallbacks + fallback e)

-- the entry that its records call for, if any
abbrev pub entry_here : Extent → List ℕ
entry_here x = new_entry x.records x.bytes x.fallbacks

-- the entries that more records complete
unfoldable pub completed : Extent → List Entry → List ℕ
completed x [] = []
completed x (e ∷ l) = entry_here (with_record x e) ++ completed (with_record x e) l

-- ---- a part of a log behind so much of it

-- the greatest number of 64 bits
abbrev pub most64 : ℕ
most64 = 18446744073709551615

-- 4 where a part of so many bytes could bring a number over 64 bits
unfoldable pub extent_fault : ℕ → Extent → Fault
extent_fault n x =
    must (leb (x.bytes + n) most64) 4 ⊳ must (leb (x.records + n) most64) 4 ⊳ must (leb (x.fallbacks + n) most64) 4

abbrev pub completed_by : Extent → Wholes → List ℕ
completed_by x (reached l used) = completed x l
completed_by x (stopped r place) = []

-- the bytes that are used, and how far it came; or the first bad record's number
abbrev pub Progress : Type 0
Progress = Result (ℕ × Extent) ℕ

-- how far the records from a byte on bring it
abbrev pub progress_by : ℕ → Extent → Wholes → Progress
progress_by at x (reached l used) = Ok (at + used, foldl with_record x l)
progress_by at x (stopped r place) = Err r

abbrev pub part_built : ℕ → ℕ → Extent → PartBuilt
part_built used n x = record { used = used; written = n; extent = x }

-- the bytes of the part that are used, those of the entries, and how far it came; or the first bad record's number
abbrev pub part_by : Extent → List ℕ → Wholes → Standing (Result PartBuilt ℕ)
part_by x buffer (stopped r place) = standing (Err r) buffer
part_by x buffer (reached l used) =
    put_over Err (Ok (part_built used (length (completed x l)) (foldl with_record x l))) (completed x l) buffer

unfoldable pub part_over : List ℕ → Extent → List ℕ → Standing (Result PartBuilt ℕ)
part_over part x buffer =
    unless_fault (λ r. standing (Err r) buffer) (extent_fault (length part) x) (part_by x buffer (wholes_of part))

-- ---- the log's end

-- bytes that are left are a record cut short; then a build's 4
unfoldable pub end_fault : ℕ → ℕ → Extent → Fault
end_fault most left x = must (eqb left 0) 2 ⊳ must (leb x.bytes most) 4 ⊳ must (leb x.records most) 4

-- the index before the entries that the parts completed
unfoldable pub end_up_to : ℕ → ℕ → Extent → List ℕ → Standing IndexWritten
end_up_to most left x buffer =
    unless_fault (refused_over buffer) (end_fault most left x) (put_index (start_of x.bytes x.records) buffer)

unfoldable pub end_over : List ℕ → Extent → List ℕ → Standing IndexWritten
end_over rest x buffer = end_up_to greatest (length rest) x buffer
