-- `replay_lists::is_replayed` meets its contract. Assumes nothing.
use mathlib.Core.Path.{◌∙◌, ap}
use native.Mathlib.Nat.{sub-zero}
use borrow.Author.Tests.{le-leb, lt-leb}
use Rattle.replay_lists.specs.ListsSet.{is_answer, is_replayed}
use Rattle.replay_lists.proofs.is_replayed.Goals as goal

pub returns-then-count-gt1280 : goal.returns-then-count-gt1280
unfolding is_replayed
returns-then-count-gt1280 c = simp (← c.word_at-count.ensures, lt-leb _ _ c.if-count-gt1280.true)

pub returns : goal.returns
unfolding is_replayed
returns c =
    simp (
      ← c.first_numbers-numbers.ensures c.if-count-gt1280.false,
      ← c.vector_at-wish.ensures,
      ← c.number_at-limit.ensures,
      ← c.word_at-rigid.ensures,
      le-leb _ _ c.if-count-gt1280.false,
      ← c.word_at-count.ensures,
    )
    (c.is_answer.ensures ∙ ap (is_answer _ _) (simp sub-zero at c.solve_linear_program-answer.ensures))
