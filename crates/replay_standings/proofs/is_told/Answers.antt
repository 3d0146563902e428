-- `replay_standings::is_told` meets its contract. Assumes nothing.
use Rattle.replay_standings.specs.Standings.{is_told}
use Rattle.replay_standings.proofs.is_told.Goals as goal

pub returns : goal.returns
unfolding is_told
returns c =
    simp (
      ← c.word_at-7.ensures,
      ← c.is_failed.ensures,
      ← c.word_at-6.ensures,
      ← c.word_at-5.ensures,
      ← c.agrees-3.ensures,
      ← c.word_at-4.ensures,
      ← c.agrees-2.ensures,
      ← c.word_at-3.ensures,
      ← c.agrees.ensures,
      ← c.word_at-2.ensures,
      ← c.word_at.ensures,
    )
