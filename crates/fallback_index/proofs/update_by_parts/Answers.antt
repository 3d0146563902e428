-- `fallback_index::update_by_parts` meets its contract. Assumes nothing.
use Rattle.std.proofs.Common.{rules, ◌∙◌}
use Rattle.fallback_index.proofs.UpdateLaws.{update-refused, update-bad, update-grown}
use Rattle.fallback_index.proofs.update_by_parts.Goals as goal

pub returns-in_err-count_by_parts : goal.returns-in_err-count_by_parts
returns-in_err-count_by_parts c =
    rw (← update-refused _ _ _ _ _ _ _ _ _ c.word_at-count.ensures _ c.in_err-count_by_parts.ensures) (search rules)

pub returns-in_err-before : goal.returns-in_err-before
returns-in_err-before c =
    rw (← update-bad _ _ _ _ _ _ _ _ _ c.word_at-count.ensures _ c.in_ok-count_by_parts.ensures _
    c.in_err-before.ensures.0) (search rules)

pub grown_by-requires-clause-before_bound : goal.grown_by-requires-clause-before_bound
grown_by-requires-clause-before_bound c = c.in_ok-before.ensures.1

pub returns : goal.returns
returns c =
    c.grown_by.ensures
    ∙ update-grown _ _ _ _ _ _ _ _ _ c.word_at-count.ensures _ c.in_ok-count_by_parts.ensures _ _
    c.word_at-named.ensures c.in_ok-before.ensures.0
