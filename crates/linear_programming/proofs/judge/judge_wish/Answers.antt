-- `linear_programming::judge::judge_wish` meets its contract. Assumes nothing.
use Rattle.admission.proofs.FaultLaws.{told-and, ⊳-assoc}
use Rattle.linear_programming.specs.Admit.{wish_fault}
use Rattle.linear_programming.proofs.judge.judge_wish.Goals as goal

pub returns : goal.returns
unfolding wish_fault
returns c =
    simp (
      c.and-2.ensures,
      c.and.ensures,
      told-and,
      ← ⊳-assoc,
      ← c.unless-speed.ensures,
      ← c.is_inside.ensures,
      ← c.unless-y.ensures,
      ← c.is_within-2.ensures,
      ← c.unless-x.ensures,
      ← c.is_within.ensures,
    )
