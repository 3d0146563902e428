-- `fallback_index::questions::count_before` meets its contract. Assumes nothing.
use Rattle.std.proofs.Common.{rules}
use Rattle.std.proofs.lemmas.Result.{err_from_is_err_and}
use native.Mathlib.Omega.{arith}
use mathlib.Core.Path.{sym}
use Rattle.fallback_index.specs.Questions.{before}
use Rattle.log_walks.proofs.WalkLaws.{walked-few}
use Rattle.fallback_index.proofs.questions.count_before.Goals as goal

pub returns-in_err-found : goal.returns-in_err-found
unfolding before
returns-in_err-found c =
    let r = err_from_is_err_and c.from_residual.result c.from_residual.ensures.1 in
    (rw (← c.in_err-found.ensures) (search rules), rw r.1 (omega arith))

pub overflow_add-result : goal.overflow_add-result
overflow_add-result c = let f = walked-few _ _ _ (sym c.in_ok-found.ensures) in omega arith

pub returns : goal.returns
unfolding before
returns c =
    let f = walked-few _ _ _ (sym c.in_ok-found.ensures) in
    (simp (← c.word_at.ensures, ← c.in_ok-found.ensures), omega arith)
