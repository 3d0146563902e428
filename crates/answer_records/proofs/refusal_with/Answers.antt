-- `answer_records::refusal_with` meets its contract. Assumes nothing.
use Rattle.std.proofs.Common.{arith, ⊎_elim}
use Rattle.answer_records.proofs.ReplyLaws.{refusal-code, last-code}
use Rattle.answer_records.proofs.refusal_with.Goals as goal

pub overflow_sub-code : goal.overflow_sub-code
overflow_sub-code c = omega (arith, refusal-code _ c.requires)

pub returns-in_default : goal.returns-in_default
returns-in_default c =
    ⊎_elim (λ h. absurd (omega (arith, refusal-code c.args.code c.requires))) (λ e. omega arith)
    (last-code c.args.code c.requires)
