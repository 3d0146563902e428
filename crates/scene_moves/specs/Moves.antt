-- 02, T-07: "a move from 1 to 2, and from 2 back to 1 where every number is 0". Definitions only. Assumes nothing.
use Rattle.std.specs.Prelude.{ℕ, zero, suc, ◌+◌, ◌-◌, ◌*◌, Bool, true, ◌&&◌, List, [], ◌∷◌, ◌++◌, map, eqb, length, take, drop}
use Rattle.admission.specs.Faults.{fine, fault}
use Rattle.fields.specs.Bytes.{big_endian}
use Rattle.fields.specs.Got.{Got, refused, got, then, guard}
use Rattle.scene_records.specs.declared.Version.{Version}
use Rattle.scene_records.specs.declared.Version.TheVariants.{One, Two}
use Rattle.scene_records.specs.Versions.{byte_of, number_of, SceneParts, parts_in}
use Rattle.scene_writer.specs.Writing.{Written, written, laid_scene}

-- ---- the bytes of the moved record

-- "a four-byte neighbour number", which version 1 has not
unfoldable pub number_bytes : Version → ℕ → List ℕ
number_bytes One n = []
number_bytes Two n = big_endian 4 n

abbrev pub number_size : Version → ℕ
number_size One = 0
number_size Two = 4

abbrev pub line_size : Version → ℕ
line_size v = number_size v + 16

-- "before each neighbour line's point": of the n lines in front each without its number of the one version and with the
-- number 0 of the other
unfoldable pub moved_lines : Version → Version → ℕ → List ℕ → List ℕ
moved_lines v w zero s = []
moved_lines v w (suc n) s = number_bytes w 0 ++ take 16 (drop (number_size v) s) ++ moved_lines v w n (drop (line_size v) s)

-- where the lines begin: they stand last
abbrev pub lines_start : Version → ℕ → List ℕ → ℕ
lines_start v n s = length s - line_size v * n

-- how many bytes the moved record has
abbrev pub moved_length : Version → Version → ℕ → List ℕ → ℕ
moved_length v w n s = lines_start v n s + line_size w * n

-- the new length and version, what stands between the version and the lines as it is, then the lines
unfoldable pub moved_bytes : Version → Version → ℕ → List ℕ → List ℕ
moved_bytes v w n s =
    big_endian 2 (moved_length v w n s - 2) ++ (byte_of w ∷ []) ++ take (lines_start v n s - 3) (drop 3 s)
    ++ moved_lines v w n (drop (lines_start v n s) s)

-- ---- the moves

unfoldable pub all_zero : List ℕ → Bool
all_zero [] = true
all_zero (n ∷ ns) = eqb n 0 && all_zero ns

-- whether no number is lost on the way to the version
abbrev pub keeps_all : Version → List ℕ → Bool
keeps_all One ns = all_zero ns
keeps_all Two ns = true

abbrev pub keeps : Version → SceneParts → Bool
keeps v p = keeps_all v (map number_of p.neighbours)

-- "11, after all other checks of the record, for a move back that would lose a number"
unfoldable pub moved : Version → Version → List ℕ → Got (List ℕ)
moved v w s = then (parts_in v s) λ p at. guard (keeps w p) 11 (got (moved_bytes v w (length p.neighbours) s) at)

-- "then 10 if the target is too short"; without a refusal the record stands at the buffer's start, and behind it what stood there
abbrev pub laid_move : Got (List ℕ) → List ℕ → Written
laid_move (refused r) buffer = written (fault r) 0 buffer
laid_move (got t at) buffer = laid_scene fine t buffer

unfoldable pub moved_into : Version → Version → List ℕ → List ℕ → Written
moved_into v w s buffer = laid_move (moved v w s) buffer
