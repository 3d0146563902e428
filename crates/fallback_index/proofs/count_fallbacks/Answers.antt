-- `fallback_index::count_fallbacks` meets its contract. Assumes nothing.
use mathlib.Core.Path.{refl, ◌∙◌}
use Rattle.fallback_index.proofs.PartLaws.{cut_by, question-cut}
use Rattle.fallback_index.proofs.count_fallbacks.Goals as goal

pub returns : goal.returns
returns c =
    c.count_by_parts.ensures
    ∙ question-cut _ _ _ c.start_within-head.ensures.0 _ _
    (cut_by c.entry_at.ensures refl c.start_within-at_a.ensures.0 c.end_within-to_a.ensures.0)
    (cut_by c.word_at.ensures c.most_bytes.ensures c.start_within-from_a.ensures.0
    c.end_within-past_a.ensures.0)
    (cut_by c.entry_at-2.ensures refl c.start_within-at_b.ensures.0 c.end_within-to_b.ensures.0)
    (cut_by c.word_at-2.ensures c.most_bytes-2.ensures c.start_within-from_b.ensures.0
    c.end_within-past_b.ensures.0)
