-- The parts of a stream of scene records (01, "Records (ours)": "An overlong record is skipped by its length").
-- Definitions only. Assumes nothing.
use Rattle.std.specs.Prelude.{ℕ, ◌+◌, List, Option, Some, None, eqb, ltb, length}
use Rattle.arithmetic.specs.Binary32.{when◌then◌else◌}
use Rattle.words.specs.Words.{pair_of}
use Rattle.scene_records.specs.Versions.{longest_either}
use Rattle.records.specs.declared.Part.{Part as PartCode}
use Rattle.records.specs.declared.Part.TheVariants as code

-- bytes of an overlong record to be skipped; the length that an overlong record names; a whole record, by the count of
-- its bytes; or nothing whole
pub data Part : Type 0 where
  skipped : ℕ → Part
  overlong : ℕ → Part
  whole : ℕ → Part
  cut_short : Part

abbrev pub part_of : Option PartCode → Part
part_of (Some (code.Skipped k)) = skipped k
part_of (Some (code.Overlong n)) = overlong n
part_of (Some (code.Whole k)) = whole k
part_of None = cut_short

-- as many of the bytes to be skipped as are there
unfoldable pub skipped_of : ℕ → ℕ → Part
skipped_of skip n = when eqb n 0 then cut_short else (when ltb n skip then skipped n else skipped skip)

-- what stands at the start of the bytes, with so many still to be skipped
unfoldable pub part_in : ℕ → List ℕ → Part
part_in skip s =
    when ltb 0 skip then skipped_of skip (length s)
    else (when ltb (length s) 2 then cut_short
    else (when ltb longest_either (pair_of s 0) then overlong (pair_of s 0)
    else (when ltb (length s) (2 + pair_of s 0) then cut_short
    else whole (2 + pair_of s 0))))
