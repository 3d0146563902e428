-- Two verdicts that one promise allows agree, and so do two parts' progress. Assumes nothing.
use Prim.Native.Nat.{ℕ}
use mathlib.Core.Path.{◌≡◌, refl, ap}
use Rattle.std.specs.Prelude.{Result, Ok, Err, Option, Some, None}
use Rattle.arithmetic.proofs.Agree.{agree-read}
use Rattle.admission.specs.declared.refusal.Refusal.{Refusal}
use Rattle.admission.specs.Refusals.{refusal_of}
use Rattle.admission.proofs.FaultLaws.{refusal-back}
use Rattle.comparison.specs.declared.Differing.{Differing}
use Rattle.comparison.specs.declared.UnreadableAt.{UnreadableAt}
use Rattle.comparison.specs.declared.Progress.{Progress as ProgressCode}
use Rattle.comparison.specs.Verdicts.{Compared, agree, differs, unreadable, compared_of, Progress, found_of, progress_in}

-- the verdict, and the progress, that it is told by
compared_as : Compared → Result (Option Differing) UnreadableAt
compared_as agree = Ok None
compared_as (differs place d) = Ok (Some (record { place = place; difference = d }))
compared_as (unreadable n place) = Err (record { refusal = refusal_of n; place = place })

compared-back : (r : Result (Option Differing) UnreadableAt) → compared_as (compared_of r) ≡ r
unfolding compared_as
compared-back (Ok None) = refl
compared-back (Ok (Some d)) = refl
compared-back (Err e) = ap (λ (r : Refusal). Err (record { refusal = r; place = e.place })) (refusal-back e.refusal)

pub verdicts-agree : {one other : Result (Option Differing) UnreadableAt} {promised : Compared} →
    compared_of one ≡ promised → compared_of other ≡ promised → one ≡ other
verdicts-agree = agree-read compared_of compared_as compared-back

found_as : Option Compared → Option (Result (Option Differing) UnreadableAt)
found_as None = None
found_as (Some verdict) = Some (compared_as verdict)

found-back : (f : Option (Result (Option Differing) UnreadableAt)) → found_as (found_of f) ≡ f
unfolding found_as
found-back None = refl
found-back (Some verdict) = ap Some (compared-back verdict)

progress_as : Progress → ProgressCode
progress_as p = record { ours = p.ours; theirs = p.theirs; place = p.place; found = found_as p.found }

progress-back : (p : ProgressCode) → progress_as (progress_in p) ≡ p
unfolding progress_as
progress-back p =
    ap (λ (f : Option (Result (Option Differing) UnreadableAt)).
    record { ours = p.ours; theirs = p.theirs; place = p.place; found = f }) (found-back p.found)

pub advances-agree : {one other : ProgressCode} {promised : Progress} → progress_in one ≡ promised →
    progress_in other ≡ promised → one ≡ other
advances-agree = agree-read progress_in progress_as progress-back
