-- `index_building::puts::put_entry` meets its contract. Assumes nothing.
use Rattle.index_building.proofs.PutLaws.{two-words}
use Rattle.index_building.proofs.puts.put_entry.Goals as goal

pub returns : goal.returns
returns c = rw (
  c.put_word-2.ensures,
  c.put_word.ensures,
) (two-words _ _ _ _)
