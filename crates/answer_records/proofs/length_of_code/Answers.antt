-- `answer_records::length_of_code` meets its contract. Assumes nothing.
use Rattle.std.proofs.Common.{◌≡◌, arith, ne_eqb, le-leb}
use borrow.Author.Tests.{lt-leb}
use Rattle.arithmetic.specs.Binary32.{when◌then◌else◌}
use Rattle.answer_records.specs.Replies.{length_of_code}
use Rattle.answer_records.proofs.length_of_code.Goals as goal

pub returns-in-1-to-5 : goal.returns-in-1-to-5
unfolding length_of_code when◌then◌else◌
returns-in-1-to-5 c =
    let k = c.args.code in
    rw (le-leb 1 k (omega arith), le-leb k 5 (omega arith))

pub returns-in_default : goal.returns-in_default
unfolding length_of_code when◌then◌else◌
returns-in_default c =
    let k = c.args.code in
    rw (lt-leb 1 k (omega arith), lt-leb 129 k (omega arith), ne_eqb k 142 (λ e. omega arith))

pub returns-in_default-2 : goal.returns-in_default-2
unfolding length_of_code when◌then◌else◌
returns-in_default-2 c =
    let k = c.args.code in
    rw (le-leb 1 k (omega arith), lt-leb k 5 (omega arith), lt-leb 129 k (omega arith), ne_eqb k 142 (λ e. omega arith))

pub returns-in_default-3 : goal.returns-in_default-3
unfolding length_of_code when◌then◌else◌
returns-in_default-3 c =
    let k = c.args.code in
    rw (
      le-leb 1 k (omega arith),
      lt-leb k 5 (omega arith),
      le-leb 129 k (omega arith),
      lt-leb k 138 (omega arith),
      ne_eqb k 142 (λ e. omega arith),
    )

pub returns-in-129-to-138 : goal.returns-in-129-to-138
unfolding length_of_code when◌then◌else◌
returns-in-129-to-138 c =
    let same : c.args.code ≡ 142 = omega arith in
    rw same

pub returns-in-129-to-138-2 : goal.returns-in-129-to-138-2
unfolding length_of_code when◌then◌else◌
returns-in-129-to-138-2 c =
    let k = c.args.code in
    rw (le-leb 1 k (omega arith), lt-leb k 5 (omega arith), le-leb 129 k (omega arith), le-leb k 138 (omega arith))
