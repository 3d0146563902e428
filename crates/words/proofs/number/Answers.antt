-- `words::number` meets its contract. Assumes nothing.
use borrow.Author.Rules.{rules}
use mathlib.Core.Path.{sym, ◌∙◌}
use lib.Ieee.{div, of_bits}
use Rattle.words.proofs.Laws.{nan-of, failed}
use Rattle.words.proofs.number.Goals as goal

pub returns-then-is_nan : goal.returns-then-is_nan
unfolding div of_bits
returns-then-is_nan c = nan-of _ (sym c.is_nan.ensures ∙ c.if-is_nan.true)

pub float_from_bits-result : goal.float_from_bits-result
float_from_bits-result c = failed _ (sym c.is_nan.ensures ∙ c.if-is_nan.false)
