-- `index_building::puts::put_head` meets its contract. Assumes nothing.
use native.Mathlib.Omega.{arith}
use lib.ListN.{length-set}
use Rattle.words.specs.Words.{word_bytes}
use Rattle.index_building.specs.Indexes.{head}
use Rattle.index_building.proofs.puts.put_head.Goals as goal

pub shape_of-buffer : goal.shape_of-buffer
shape_of-buffer c =
    omega (
      arith,
      c.put_word-3.auto.s,
      simp length-set at c.put_word-2.auto.s,
      c.put_word.auto.s,
    )

pub returns : goal.returns
unfolding head word_bytes
returns c =
    rw (c.put_word-3.ensures, c.put_word-2.ensures, c.put_word.ensures)
