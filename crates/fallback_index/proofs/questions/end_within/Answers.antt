-- `fallback_index::questions::end_within` meets its contract. Assumes nothing.
use native.Mathlib.Omega.{arith}
use mathlib.Core.Path.{ap, ◌∙◌}
use Prim.Native.Nat.{ℕ, ◌+◌}
use Rattle.fallback_index.proofs.PartLaws.{up-sum}
use Rattle.fallback_index.proofs.questions.end_within.Goals as goal

pub returns : goal.returns
returns c =
    let a = c.args in (
      ap (λ (n : ℕ). a.at + n) c.min.ensures ∙ up-sum a.all a.at a.count c.requires,
      omega arith,
      omega (arith, c.min.ensures),
    )
