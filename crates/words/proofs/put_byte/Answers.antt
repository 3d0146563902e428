-- `words::put_byte` meets its contract: past the end the store changes nothing. Assumes nothing.
use mathlib.Core.Path.{sym}
use native.Mathlib.Omega.{arith}
use lib.Seq.{set_out}
use borrow.Author.Rules.{rules}
use Rattle.words.proofs.put_byte.Goals as goal

pub returns-else-k-s : goal.returns-else-k-s
returns-else-k-s c = sym (set_out _ _ _ (omega arith))

pub returns-else-at-s : goal.returns-else-at-s
returns-else-at-s c = sym (set_out _ _ _ (omega arith))
