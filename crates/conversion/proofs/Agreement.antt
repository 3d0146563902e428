-- Two outcomes that one promise about a turn allows agree: where the stream stands, and what input and output hold
-- then. Assumes nothing.
use Rattle.std.proofs.Common.{◌≡◌, ℕ, List, [], refl, ap}
use Rattle.arithmetic.proofs.Agree.{agree, agree-read}
use Rattle.admission.specs.declared.refusal.Refusal.{Refusal}
use Rattle.admission.specs.Refusals.{refusal_of}
use Rattle.admission.proofs.FaultLaws.{refusal-back}
use Rattle.conversion.specs.declared.Stage.{Stage as StageCode}
use Rattle.conversion.specs.declared.Stage.TheVariants as code
use Rattle.conversion.specs.declared.Stream.{Stream}
use Rattle.conversion.specs.Stages.{Stage, stage_of}
use Rattle.conversion.specs.Stages as stage
use Rattle.conversion.specs.Turns.{Lent, lent}

-- the stage, and the stream, that it is told by
stage_as : Stage → StageCode Refusal
stage_as stage.Open = code.Open
stage_as stage.Whole = code.Whole
stage_as (stage.Refused n) = code.Refused (refusal_of n)
stage_as stage.NoRoom = code.NoRoom

stage-back : (g : StageCode Refusal) → stage_as (stage_of g) ≡ g
unfolding stage_as
stage-back code.Open = refl
stage-back code.Whole = refl
stage-back (code.Refused r) = ap code.Refused (refusal-back r)
stage-back code.NoRoom = refl

abbrev stream_as : Lent → Stream Refusal
stream_as l = record { put = l.put; kept = l.kept; place = l.place; stage = stage_as l.stage }

abbrev read : Stream Refusal → Lent
read t = lent t [] []

stream-back : (t : Stream Refusal) → stream_as (read t) ≡ t
stream-back t =
    ap (λ (g : StageCode Refusal). record { put = t.put; kept = t.kept; place = t.place; stage = g }) (stage-back t.stage)

-- what is told, without what input and output hold
abbrev told_alone : Lent → Lent
told_alone l = record { put = l.put; kept = l.kept; place = l.place; stage = l.stage; input = []; output = [] }

pub conversions-agree : {one other : Stream Refusal} {input held output out : List ℕ} {promised : Lent} →
    lent one input output ≡ promised → lent other held out ≡ promised
    → (one ≡ other) × (input ≡ held) × (output ≡ out)
conversions-agree p q = (
  agree-read read stream_as stream-back (ap told_alone p) (ap told_alone q),
  agree (ap (λ (l : Lent). l.input) p) (ap (λ (l : Lent). l.input) q),
  agree (ap (λ (l : Lent). l.output) p) (ap (λ (l : Lent). l.output) q),
)
