-- `replay_edges::is_replayed` meets its contract. Assumes nothing.
use mathlib.Core.Path.{◌∙◌, ap}
use native.Mathlib.Omega.{arith}
use borrow.Author.Tests.{le-leb}
use Rattle.replay_edges.specs.EdgesSet.{is_answer, is_replayed}
use Rattle.replay_edges.proofs.is_replayed.Goals as goal

pub returns : goal.returns
unfolding is_replayed
returns c =
    simp (
      ← c.word_at.ensures,
      ← c.number_at-2.ensures,
      ← c.number_at.ensures,
      ← c.long_at.ensures,
      ← c.first_numbers-numbers.ensures
          (omega (arith, c.if-count-gt384.false)),
      ← c.vector_at-2.ensures,
      ← c.vector_at.ensures,
      ← c.word_at-count.ensures,
      le-leb _ _ c.if-count-gt384.false,
      ← c.word_at-kind.ensures,
      le-leb _ _ c.if-kind-gt255.false,
    )
    (c.is_answer.ensures ∙ ap (is_answer _ _ _)
    c.get_lines_for_agent_to_obstacle-made.ensures.answer)
