-- `fallback_index::appends::grown_by` meets its contract. Assumes nothing.
use Rattle.std.proofs.Common.{rules, arith}
use Rattle.answer_logs.specs.Logs.{entry_of}
use Rattle.log_walks.proofs.WalkLaws.{one-fallback}
use Rattle.fallback_index.specs.Appends.{grown}
use Rattle.fallback_index.proofs.UpdateLaws.{grown-said}
use Rattle.fallback_index.proofs.appends.grown_by.Goals as goal

pub overflow_add-extent : goal.overflow_add-extent
overflow_add-extent c = omega (arith, c.fallback_in.ensures, one-fallback (entry_of c.in_ok-reply.reply))

pub returns-in_err-judge_grown : goal.returns-in_err-judge_grown
unfolding grown
returns-in_err-judge_grown c =
    let told = rw c.in_ok-reply.was at c.read_answer.ensures in
    rw (← told, grown-said, ← c.fallback_in.ensures, ← c.in_err-judge_grown.ensures) (search rules)

pub returns : goal.returns
unfolding grown
returns c =
    let told = rw c.in_ok-reply.was at c.read_answer.ensures in
    rw (← told, grown-said, ← c.fallback_in.ensures, ← c.in_ok-judge_grown.ensures)
