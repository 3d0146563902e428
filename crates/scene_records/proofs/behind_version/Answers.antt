-- `scene_records::behind_version` meets its contract. Assumes nothing.
use Rattle.scene_records.specs.Versions.{behind_version}
use Rattle.scene_records.proofs.Chains.{guard-refused, numbered-exit, refused-exit}
use Rattle.scene_records.proofs.behind_version.Goals as goal

pub returns-in_err-unless-clause-answer : goal.returns-in_err-unless-clause-answer
unfolding behind_version
returns-in_err-unless-clause-answer c = numbered-exit _ _ _ c.from_residual.ensures.1
    (guard-refused _ 4 _ _ (rw (c.saturating_sub.ensures, c.longest_rest.ensures) at c.in_err-unless.ensures))

pub returns-in_err-unless-clause-told : goal.returns-in_err-unless-clause-told
unfolding behind_version
returns-in_err-unless-clause-told c = refused-exit _ _ _ c.from_residual.ensures.1
    (guard-refused _ 4 _ _ (rw (c.saturating_sub.ensures, c.longest_rest.ensures) at c.in_err-unless.ensures))
