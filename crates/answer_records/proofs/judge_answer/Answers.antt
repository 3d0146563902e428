-- `answer_records::judge_answer` meets its contract. Assumes nothing.
use Rattle.std.proofs.Common.{sym, ◌∙◌, arith, eq-eqb, ne_eqb, le-leb}
use borrow.Author.Tests.{lt-leb}
use Rattle.answer_records.specs.Replies.{answer_fault}
use Rattle.answer_records.proofs.ReplyLaws.{has_code, and-told}
use Rattle.answer_records.proofs.judge_answer.Goals as goal

pub returns-then-bytes-lt2 : goal.returns-then-bytes-lt2
unfolding answer_fault
returns-then-bytes-lt2 c = simp (lt-leb 2 _ c.if-bytes-lt2.true)

pub returns-then-not-is_length : goal.returns-then-not-is_length
unfolding answer_fault
returns-then-not-is_length c = simp (
  le-leb 2 _ c.if-bytes-lt2.false,
  ← c.pair_at-length.ensures,
  sym c.is_length.ensures ∙ c.if-not-is_length.true,
)

pub returns-then-bytes-length : goal.returns-then-bytes-length
unfolding answer_fault
returns-then-bytes-length c = simp (
  le-leb 2 _ c.if-bytes-lt2.false,
  ← c.pair_at-length.ensures,
  sym c.is_length.ensures
      ∙ c.if-not-is_length.false,
  ne_eqb _ _ c.if-bytes-length.true,
)

pub bounds-bytes-2 : goal.bounds-bytes-2
bounds-bytes-2 c = omega (
  arith,
  has_code _ (sym c.is_length.ensures
      ∙ c.if-not-is_length.false),
  c.if-bytes-length.false,
)

pub bounds-bytes-3 : goal.bounds-bytes-3
bounds-bytes-3 c =
    omega (
      arith,
      has_code _ (sym c.is_length.ensures
          ∙ c.if-not-is_length.false),
      c.if-bytes-length.false,
    )

pub returns : goal.returns
unfolding answer_fault
returns c =
    let named = sym c.is_length.ensures ∙ c.if-not-is_length.false in
    simp (
      c.and.ensures,
      and-told,
      c.unless-code.ensures,
      c.length_of_code.ensures,
      c.unless-version.ensures,
      le-leb 2 _ c.if-bytes-lt2.false,
      ← c.pair_at-length.ensures,
      named,
      eq-eqb _ _ c.if-bytes-length.false,
    )
