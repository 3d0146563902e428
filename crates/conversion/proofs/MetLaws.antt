-- Laws of the record at the start of a stream: how many bytes it and the moved one have, and that bytes behind it do
-- not change what is met. Assumes nothing.
use Rattle.std.proofs.Common.{◌≡◌, ℕ, ◌+◌, ◌-◌, ◌*◌, ◌≤◌, List, ◌++◌, length, take, refl, ap, arith, length-take-le}
use lib.Seq.{take-append-le}
use Rattle.fields.specs.Got.{Got, refused, got}
use Rattle.scene_records.specs.declared.Version.{Version}
use Rattle.scene_records.specs.declared.Version.TheVariants.{One, Two}
use Rattle.scene_records.specs.Versions.{longest_either}
use Rattle.scene_moves.specs.Moves.{line_size, moved}
use Rattle.scene_moves.proofs.Places.{lines-last}
use Rattle.scene_moves.proofs.PutMoves.{moved-long}
use Rattle.scene_moves.proofs.MoveLaws.{moved-taken}
use Rattle.records.specs.Parts.{Part, skipped, overlong, whole, cut_short, part_in}
use Rattle.records.proofs.PartLaws.{Lies, skips, names, holds, none, lies, overlong-stays, whole-stays}
use Rattle.conversion.specs.Streams.{other_of, Met, moves, refuses, waits, met_by, met_as, met_in}

-- ---- a moved record has at most two bytes for each of its own

-- a line has 16 bytes at least, of which there are 20 at most on the other side
lines-sparing : (to : Version) (n size : ℕ) → 41 + line_size (other_of to) * n ≤ size →
    size - line_size (other_of to) * n + line_size to * n ≤ 2 * size
lines-sparing One n size h = omega arith
lines-sparing Two n size h = omega arith

pub moved-sparing : (to : Version) (s t : List ℕ) (m : ℕ) → moved (other_of to) to s ≡ got t m → length t ≤ 2 * length s
moved-sparing to s t m e =
    moved-taken s (other_of to) to t m e λ p read kept made.
    let n = length p.neighbours in
    let room = lines-last s (other_of to) p m read in
    omega (arith, ap length made, moved-long (other_of to) to n s room, lines-sparing to n (length s) room)

-- ---- what is met

-- of a record how many bytes it has, and that what is met does not depend on what follows; where nothing is whole,
-- that few bytes are there
pub data Meets (to : Version) (l : List ℕ) : Met → Type 0 where
  moving : {k : ℕ} {t : List ℕ} → 1 ≤ k → k ≤ length l → length t ≤ 2 * k →
      ((b : List ℕ) → met_in to (l ++ b) ≡ moves k t) → Meets to l (moves k t)
  refusing : {r : ℕ} → 1 ≤ length l → ((b : List ℕ) → met_in to (l ++ b) ≡ refuses r) → Meets to l (refuses r)
  waiting : length l ≤ 1 + longest_either → Meets to l waits

module _ (to : Version) (l : List ℕ) where
  whole_meets : {k : ℕ} → Lies 0 l (whole k) → k ≤ length l → 1 ≤ k → (g : Got (List ℕ)) →
      moved (other_of to) to (take k l) ≡ g → Meets to l (met_by k g)
  unfolding met_in
  whole_meets {k} h there one (refused r) e =
      refusing {r = r} (omega arith) λ b. rw (whole-stays 0 l b h, take-append-le k l b there, e) refl
  whole_meets {k} h there one (got t m) e =
      let size : length (take k l) ≡ k = length-take-le k l there in
      moving {k = k} {t = t} one there (rw size at (moved-sparing to (take k l) t m e)) λ b.
      rw (whole-stays 0 l b h, take-append-le k l b there, e) refl

  part_meets : (q : Part) → Lies 0 l q → Meets to l (met_as to l q)
  unfolding met_in
  part_meets (skipped k) (skips one fits there) = absurd (omega arith)
  part_meets (overlong n) (names z two far e) =
      refusing {r = 4} (omega arith) λ b. rw (overlong-stays 0 l b (names z two far e)) refl
  part_meets (whole k) (holds z two near there e) =
      whole_meets (holds z two near there e) there (omega arith) (moved (other_of to) to (take k l)) refl
  part_meets cut_short (none few) = waiting few

  pub meets : Meets to l (met_in to l)
  unfolding met_in
  meets = part_meets (part_in 0 l) (lies 0 l)
