-- `fallback_index::count_by_parts` meets its contract. Assumes nothing.
use Rattle.std.proofs.Common.{rules, refl, ◌∙◌}
use Rattle.fallback_index.proofs.PartLaws.{parts-refused, parts-counted}
use Rattle.fallback_index.proofs.count_by_parts.Goals as goal

pub returns-in_err-judge : goal.returns-in_err-judge
returns-in_err-judge c =
    rw (← parts-refused _ _ _ _ _ _ _ _ _ _ _ c.word_at-first.ensures c.word_at-second.ensures _ c.in_err-judge.ensures) (search rules)

pub returns-in_err-before_a : goal.returns-in_err-before_a
returns-in_err-before_a c =
    rw (← parts-counted _ _ _ _ _ _ _ _ _ _ _ c.word_at-first.ensures c.word_at-second.ensures
    c.in_ok-judge.ensures c.in_err-before_a.ensures.0 refl) (search rules)

pub returns-in_err-before_b : goal.returns-in_err-before_b
returns-in_err-before_b c =
    rw (← parts-counted _ _ _ _ _ _ _ _ _ _ _ c.word_at-first.ensures c.word_at-second.ensures
    c.in_ok-judge.ensures c.in_ok-before_a.ensures.0 c.in_err-before_b.ensures.0) (search rules)

pub returns : goal.returns
returns c =
    c.count_between.ensures
    ∙ parts-counted _ _ _ _ _ _ _ _ _ _ _ c.word_at-first.ensures c.word_at-second.ensures
    c.in_ok-judge.ensures c.in_ok-before_a.ensures.0 c.in_ok-before_b.ensures.0
