-- `records::outcome::write_outcome` meets its contract. Assumes nothing.
use Rattle.std.proofs.Common.{sym, ap, ◌∙◌, rules}
use Rattle.answer_records.specs.Answers.{Written}
use Rattle.records.proofs.OutcomeLaws.{pattern-bits}
use Rattle.records.proofs.outcome.write_outcome.Goals as goal

pub returns : goal.returns
returns c =
    let v = c.args.outcome.velocity in
    rw (
      ← c.number.ensures,
      ← (c.pattern.ensures ∙ sym (pattern-bits v.x (search rules))),
      ← (c.pattern-2.ensures ∙ sym (pattern-bits v.y (search rules))),
      ← c.failed_place.ensures,
    )
    (ap (λ (w : Written). w.contents) c.write_answer.ensures)
