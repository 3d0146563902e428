-- A line taken back (02, T-12): what comes back, whole. Definitions only. Assumes nothing.
use Rattle.std.specs.Prelude.{ℕ, zero, suc, ◌+◌, ◌-◌, List, [], ◌∷◌, length, take, nat_le, nat_lt, Float}
use Rattle.arithmetic.specs.Binary32.{when◌then◌else◌}
use Rattle.common.specs.declared.Vec2.{Vec2}
use Rattle.lines.specs.declared.Line.{Line}
use Rattle.lines.specs.declared.Origin.{Origin}
use Rattle.lines.specs.Lines.{most_lines, numbers_of}
use Rattle.admission.specs.Faults.{Fault, fault, must, ◌⊳◌, unless_fault}
use Rattle.session.specs.declared.Session.{Session}
use Rattle.session.specs.Calls.{Fed}
use Rattle.session.specs.Sessions.{lines_in, origins_in, started_as}
use Rattle.session.specs.Batches.{fed_with}

-- ---- a fresh session

-- a refused call hands back the session that it was given
abbrev pub refused_by : Session → ℕ → Fed
refused_by s r = record { judged = fault r; session = s }

-- a call's answer, with the session that was given beside a refusal
abbrev pub or_given : Session → Fed → Fed
or_given s r = unless_fault (refused_by s) r.judged r

-- what a call left, fed a batch where it was taken
abbrev pub then_fed : Fed → List Float → List ℕ → Fed
then_fed r xs os = unless_fault (refused_by r.session) r.judged (fed_with r.session xs os)

-- a start, and one batch
unfoldable pub started_with : Vec2 → Float → ℕ → List Float → List ℕ → Fed
started_with wish limit rigid xs os = then_fed (started_as wish limit rigid) xs os

-- origins as numbers, "three whole numbers a line"
unfoldable pub threes_of : List Origin → List ℕ
threes_of [] = []
threes_of (o ∷ os) = o.kind ∷ o.place ∷ o.vertex ∷ threes_of os

-- "a fresh session .., fed .. lines in their order", each with its origin
abbrev pub fresh_as : Vec2 → Float → ℕ → List Line → List Origin → Fed
fresh_as wish limit rigid lines origins = started_with wish limit rigid (numbers_of lines) (threes_of origins)

-- ---- what is left

module _ {A : Type 0} where
  -- a list without the element at an index: "Later lines move down one"
  unfoldable pub without : ℕ → List A → List A
  without i [] = []
  without zero (x ∷ xs) = xs
  without (suc i) (x ∷ xs) = x ∷ without i xs

  -- without those at several, the last of them first
  unfoldable pub without_all : List ℕ → List A → List A
  without_all [] l = l
  without_all (i ∷ is) l = without i (without_all is l)

  -- the first `count` of a list without those at several indices, as many as are left
  abbrev pub left_of : List ℕ → ℕ → List A → List A
  left_of is count l = take (count - length is) (without_all is (take count l))

-- where the element that comes to stand at n stood before one was taken out, and before several were
unfoldable pub source_of : ℕ → ℕ → ℕ
source_of i n = when nat_lt n i then n else n + 1

unfoldable pub source_in : List ℕ → ℕ → ℕ
source_in [] n = n
source_in (i ∷ is) n = source_in is (source_of i n)

-- "the rigid count is one less if the index was below it"
unfoldable pub lowered : ℕ → ℕ → ℕ
lowered i rigid = when nat_lt i rigid then rigid - 1 else rigid

-- ---- the call

-- "any other value gets 4 if its count is over 256"; "15 if the index is not below the line count"
unfoldable pub withdrawal_fault : ℕ → ℕ → Fault
withdrawal_fault count i = must (nat_le count most_lines) 4 ⊳ must (nat_lt i count) 15

-- "it stands as a fresh session with the same wish and limit, fed the remaining lines in their order"; "then 8 or 9 if
-- the remaining lines, solved afresh, would be refused"
unfoldable pub withdrawn_as : Session → ℕ → Fed
withdrawn_as s i =
    unless_fault (refused_by s) (withdrawal_fault s.count i)
    (or_given s (fresh_as s.wish s.limit (lowered i s.rigid) (without i (lines_in s)) (without i (origins_in s))))
