-- `answer_records::read_answer` meets its contract. Assumes nothing.
use Rattle.std.proofs.Common.{rules, sym, ◌∙◌, arith, eq-eqb, ne_eqb}
use Rattle.arithmetic.specs.Binary32.{when◌then◌else◌}
use Rattle.answer_records.specs.Replies.{answer_in}
use Rattle.answer_records.proofs.ReplyLaws.{code-there, refusal-of-code}
use Rattle.answer_records.proofs.read_answer.Goals as goal

pub returns-in_err-judge_answer : goal.returns-in_err-judge_answer
unfolding answer_in
returns-in_err-judge_answer c = rw (← c.in_err-judge_answer.ensures) (search rules)

pub outcome_in-requires : goal.outcome_in-requires
outcome_in-requires c = omega (arith, code-there _ (sym c.in_ok-judge_answer.ensures))

pub returns-then-pair_at-eq-LENGTH : goal.returns-then-pair_at-eq-LENGTH
unfolding answer_in when◌then◌else◌
returns-then-pair_at-eq-LENGTH c = simp (
  ← c.outcome_in.ensures,
  ← c.in_ok-judge_answer.ensures,
  eq-eqb _ _ c.if-pair_at-eq-LENGTH.true,
  ← c.pair_at.ensures,
)

pub bounds-bytes-3 : goal.bounds-bytes-3
bounds-bytes-3 c = omega (arith, code-there _ (sym c.in_ok-judge_answer.ensures))

pub refusal_with-requires : goal.refusal_with-requires
refusal_with-requires c =
    refusal-of-code _ (sym c.in_ok-judge_answer.ensures) (λ n. c.if-pair_at-eq-LENGTH.false (c.pair_at.ensures ∙ n))

pub returns : goal.returns
unfolding answer_in when◌then◌else◌
returns c = simp (
  c.refusal_with.ensures,
  ← c.in_ok-judge_answer.ensures,
  ne_eqb _ _ c.if-pair_at-eq-LENGTH.false,
  ← c.pair_at.ensures,
)
