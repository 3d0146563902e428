-- `words::pattern` meets its contract. Assumes nothing.
use mathlib.Core.Path.{sym, ◌∙◌}
use Rattle.arithmetic.proofs.Signs.{ne-self}
use Rattle.words.proofs.Laws.{nan_pattern, failed}
use borrow.Author.Rules.{rules}
use Rattle.words.proofs.pattern.Goals as goal

pub returns-then-value : goal.returns-then-value
returns-then-value c = nan_pattern _ (sym (ne-self _) ∙ c.if-value.true)

pub float_to_bits-result : goal.float_to_bits-result
float_to_bits-result c = failed _ (sym (ne-self _) ∙ c.if-value.false)
