-- `fallback_index::appends::update_in` meets its contract. Assumes nothing.
use mathlib.Core.Path.{refl, ◌∙◌}
use Rattle.fallback_index.proofs.PartLaws.{cut_by, update-cut}
use Rattle.fallback_index.proofs.appends.update_in.Goals as goal

pub returns : goal.returns
returns c =
    c.update_by_parts.ensures
    ∙ update-cut _ _ _ c.start_within-head.ensures.0 _ _ _ c.word_at-count.ensures c.end_within-first.ensures.0
    (cut_by c.entry_at.ensures refl c.start_within-at.ensures.0 c.end_within-to.ensures.0)
    (cut_by c.word_at.ensures c.most_bytes.ensures c.start_within-from.ensures.0
    c.end_within-past.ensures.0)
