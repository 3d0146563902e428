-- `words::has_pattern` meets its contract. Assumes nothing.
use borrow.Author.Rules.{rules}
use mathlib.Core.Path.{sym, ◌∙◌}
use Rattle.words.specs.Patterns.{has_pattern}
use Rattle.arithmetic.proofs.Signs.{ne-self}
use Rattle.words.proofs.Laws.{failed}
use Rattle.words.proofs.has_pattern.Goals as goal

pub returns-then-x : goal.returns-then-x
unfolding has_pattern
returns-then-x c = rw (sym (ne-self _) ∙ c.if-x.true) c.is_nan.ensures

pub float_to_bits-result : goal.float_to_bits-result
float_to_bits-result c = failed _ (sym (ne-self _) ∙ c.if-x.false)

pub returns : goal.returns
unfolding has_pattern
returns c = rw (sym (ne-self _) ∙ c.if-x.false)
