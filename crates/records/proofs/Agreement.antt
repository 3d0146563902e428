-- Two outcomes that one promise about a turn allows agree: where the stream stands, and what input and output hold
-- then; and so do two parts, and two answers to a record with what its buffer holds. (Those without the failure agree
-- by `writings-agree` of `answer_records`.) Assumes nothing.
use Prim.Native.Nat.{ℕ}
use mathlib.Core.Path.{◌≡◌, refl, ap}
use mathlib.Core.List.{List}
use Rattle.std.specs.Prelude.{Option, Some, None, Result}
use Rattle.admission.specs.declared.refusal.Refusal.{Refusal}
use Rattle.arithmetic.proofs.Agree.{agree, agree-read}
use Rattle.dodgy_2d.specs.Read.{ToldAnswer}
use Rattle.records.specs.declared.Part.{Part as PartCode}
use Rattle.records.specs.declared.Part.TheVariants as code
use Rattle.records.specs.declared.Stream.{Stream}
use Rattle.records.specs.Answered.{Solved, solved}
use Rattle.records.specs.Parts.{Part, skipped, overlong, whole, cut_short, part_of}
use Rattle.records.specs.Turns.{Lent, lent}

pub turns-agree : {one other : Stream} {input held output out : List ℕ} {promised : Lent} → lent one input output
    ≡ promised → lent other held out ≡ promised
    → (one ≡ other) × (input ≡ held) × (output ≡ out)
turns-agree p q = (
  agree (ap (λ (l : Lent). l.turn) p) (ap (λ (l : Lent). l.turn) q),
  agree (ap (λ (l : Lent). l.input) p) (ap (λ (l : Lent). l.input) q),
  agree (ap (λ (l : Lent). l.output) p) (ap (λ (l : Lent). l.output) q),
)

-- what a part says can be turned back
abbrev part_as : Part → Option PartCode
part_as (skipped k) = Some (code.Skipped k)
part_as (overlong n) = Some (code.Overlong n)
part_as (whole k) = Some (code.Whole k)
part_as cut_short = None

part-back : (q : Option PartCode) → part_as (part_of q) ≡ q
part-back (Some (code.Skipped k)) = refl
part-back (Some (code.Overlong n)) = refl
part-back (Some (code.Whole k)) = refl
part-back None = refl

pub parts-agree : {one other : Option PartCode} {promised : Part} → part_of one ≡ promised → part_of other ≡ promised → one ≡ other
parts-agree = agree-read part_of part_as part-back

pub answers_agree : {one other : Result ToldAnswer Refusal} {held out : List ℕ} {promised : Solved} → solved one held ≡ promised →
    solved other out ≡ promised
    → (one ≡ other) × (held ≡ out)
answers_agree p q = (
  agree (ap (λ (s : Solved). s.told) p) (ap (λ (s : Solved). s.told) q),
  agree (ap (λ (s : Solved). s.contents) p) (ap (λ (s : Solved). s.contents) q),
)
