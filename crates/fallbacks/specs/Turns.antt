-- What a turn of a build does with what was read: the library's step over a part of the log (02, T-10). Definitions
-- only. Assumes nothing.
use Rattle.std.specs.Prelude.{ℕ, ◌-◌, ◌≤◌, ◌≡◌, List, length, take, Result, Ok, Err}
use Rattle.kept.specs.Kept.{shifted}
use Rattle.admission.specs.Refusals.{number_of}
use Rattle.index_building.specs.declared.Extent.{Extent}
use Rattle.index_building.specs.declared.PartBuilt.{PartBuilt}
use Rattle.index_building.specs.Indexes.{Standing}
use Rattle.index_building.specs.Builds.{part_over}
use Rattle.fallbacks.specs.declared.Stage.{Stage as StageCode}
use Rattle.fallbacks.specs.declared.Stage.TheVariants as stage
use Rattle.fallbacks.specs.declared.Reading.{Reading}

-- it goes on; it has met the end; it was refused with this number; or a read or a write failed
pub data Stage : Type 0 where
  goes-on : Stage
  ended : Stage
  refused : ℕ → Stage
  read-failed : Stage
  write-failed : Stage

abbrev pub stage_of : StageCode → Stage
stage_of stage.Open = goes-on
stage_of stage.AtEnd = ended
stage_of (stage.Refused r) = refused (number_of r)
stage_of stage.Unread = read-failed
stage_of stage.Unwritten = write-failed

-- what is carried from turn to turn, and what the two buffers hold then
pub record Held : Type 0 where
  pub stage : Stage
  pub kept : ℕ
  pub extent : Extent
  pub input : List ℕ
  pub entries : List ℕ

abbrev pub held : Reading → List ℕ → List ℕ → Held
held r input entries = record { stage = stage_of r.stage; kept = r.kept; extent = r.extent; input = input; entries = entries }

-- with another stage alone
abbrev pub staged : StageCode → Reading → Reading
staged s before = record { stage = s; kept = before.kept; extent = before.extent }

-- behind whole records it goes on, and what is left of the bytes waits at the input's start; a refusal ends it
abbrev pub went_on : List ℕ → ℕ → Reading → List ℕ → Result PartBuilt ℕ → Held
went_on input there before entries (Err r) =
    record { stage = refused r; kept = before.kept; extent = before.extent; input = input; entries = entries }
went_on input there before entries (Ok p) =
    held (record { stage = stage.Open; kept = there - p.used; extent = p.extent }) (shifted p.used (there - p.used) input) entries

abbrev pub read_as : List ℕ → ℕ → Reading → Standing (Result PartBuilt ℕ) → Held
read_as input there before s = went_on input there before s.contents s.told

-- the step over the input's first bytes, behind how far the log was read
unfoldable pub read_over : List ℕ → ℕ → List ℕ → Reading → Held
read_over input there entries before = read_as input there before (part_over (take there input) before.extent entries)

-- what is there is worked as one part of the log, or its entries could not be written
pub data Steps (before : Reading) (input : List ℕ) (there : ℕ) (entries : List ℕ) (next : Reading)
    (after written : List ℕ) : Type 0 where
  unwritten : next.stage ≡ stage.Unwritten → Steps before input there entries next after written
  worked : held next after written ≡ read_over input there entries before → Steps before input there entries next after written

-- What a turn comes to: the read failed; it met the end, and what was kept is all that is left; or it put bytes
-- behind those that were kept, so many are there, and they are worked.
pub data Follows (before : Reading) (input entries : List ℕ) (next : Reading) (after written : List ℕ) : Type 0 where
  unread : next ≡ staged stage.Unread before → Follows before input entries next after written
  at-end : next ≡ staged stage.AtEnd before → take before.kept after ≡ take before.kept input →
      Follows before input entries next after written
  brought : (filled : List ℕ) (there : ℕ) → take before.kept filled ≡ take before.kept input →
      before.kept ≤ there → there ≤ length filled →
      Steps before filled there entries next after written → Follows before input entries next after written
