-- `linear_programming::judge::judge_count` meets its contract. Assumes nothing.
use Rattle.admission.proofs.FaultLaws.{told-and}
use Rattle.lines.proofs.Rows.{lines_long}
use Rattle.linear_programming.specs.Admit.{count_fault}
use Rattle.linear_programming.proofs.judge.judge_count.Goals as goal

pub returns : goal.returns
unfolding count_fault
returns c =
    let xs = c.args.numbers.now in
    simp (lines_long xs, c.and.ensures, told-and, ← c.unless-few.ensures, ← c.unless-whole.ensures)
