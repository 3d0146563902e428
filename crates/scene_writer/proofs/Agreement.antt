-- Two outcomes that the writer's promise allows agree: what is told, and what the buffer holds then. Assumes nothing.
use Prim.Native.Nat.{ℕ}
use mathlib.Core.Path.{◌≡◌, refl, sym, ap, ◌∙◌}
use mathlib.Core.List.{List}
use Rattle.arithmetic.proofs.Agree.{agree}
use Rattle.admission.specs.Faults.{Fault, fine, fault}
use Rattle.std.specs.Prelude.{Result, Ok, Err}
use Rattle.admission.specs.declared.refusal.Refusal.{Refusal}
use Rattle.admission.specs.Refusals.{refusal_of}
use Rattle.admission.proofs.FaultLaws.{refusal-back}
use Rattle.scene_writer.specs.Writing.{Written, written_of}

-- the answer, from what is told and the size
answer_in : Fault → ℕ → Result ℕ Refusal
answer_in fine n = Ok n
answer_in (fault r) n = Err (refusal_of r)

answer_back : (s : Result ℕ Refusal) (l : List ℕ) → answer_in (written_of s l).told (written_of s l).size ≡ s
unfolding answer_in
answer_back (Ok n) l = refl
answer_back (Err r) l = ap Err (refusal-back r)

contents-back : (s : Result ℕ Refusal) (l : List ℕ) → (written_of s l).contents ≡ l
contents-back (Ok n) l = refl
contents-back (Err r) l = refl

pub scene-writings-agree : {one other : Result ℕ Refusal} {held kept : List ℕ} {promised : Written} →
    written_of one held ≡ promised → written_of other kept ≡ promised → (one ≡ other) × (held ≡ kept)
scene-writings-agree {one} {other} {held} {kept} p q =
    let same = agree p q in (
      sym (answer_back one held) ∙ ap (λ (w : Written). answer_in w.told w.size) same
          ∙ answer_back other kept,
      sym (contents-back one held) ∙ ap (λ (w : Written). w.contents) same
          ∙ contents-back other kept,
    )
