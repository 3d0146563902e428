-- Two outcomes that a promise about what is told and what a lent buffer holds then allows agree in both. Assumes nothing.
use Prim.Native.Nat.{ℕ}
use mathlib.Core.Path.{◌≡◌, refl, ap}
use mathlib.Core.List.{List}
use Rattle.std.specs.Prelude.{Result}
use Rattle.arithmetic.proofs.Agree.{agree}
use Rattle.admission.specs.declared.refusal.Refusal.{Refusal}
use Rattle.answer_records.specs.Numbers.{numbered}
use Rattle.answer_records.proofs.NumberLaws.{numbered-agree}
use Rattle.index_building.specs.Indexes.{Standing, standing}

pub standings-agree : {A : Type 0} {one other : A} {held kept : List ℕ} {promised : Standing A} →
    standing one held ≡ promised → standing other kept ≡ promised → (one ≡ other) × (held ≡ kept)
standings-agree {A} p q =
    let same = agree p q in
    (ap (λ (s : Standing A). s.told) same, ap (λ (s : Standing A). s.contents) same)

-- the same of an answer that is read by its number
pub numbered-standings-agree : {A : Type 0} {one other : Result A Refusal} {held kept : List ℕ} {promised : Standing (Result A ℕ)} →
    standing (numbered one) held ≡ promised → standing (numbered other) kept ≡ promised → (one ≡ other) × (held ≡ kept)
numbered-standings-agree p q =
    let both = standings-agree p q in
    (numbered-agree both.0 refl, both.1)
