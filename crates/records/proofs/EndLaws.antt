-- Laws of the end of the input. Assumes nothing.
use Prim.Native.Nat.{ℕ, ◌≤◌}
use native.Mathlib.Omega.{arith}
use mathlib.Core.Path.{◌≡◌, ap, ◌∙◌}
use mathlib.Core.List.{List}
use lib.ListN.{length}
use borrow.Author.Tests.{eq-eqb, ne_eqb}
use Rattle.arithmetic.specs.Binary32.{when◌then◌else◌}
use Rattle.admission.specs.Faults.{Fault}
use Rattle.fields.specs.Bytes.{big_endian}
use Rattle.answer_records.specs.Answers.{longest_answer, refusal_bytes, Written, written, laid}
use Rattle.answer_records.proofs.WrittenLaws.{laid-there}
use Rattle.records.specs.Steps.{put, put_at}
use Rattle.records.specs.Streams.{last_answer}

module _ (left : ℕ) (out : List ℕ) where
  pub nothing_left : left ≡ 0 → put 0 out ≡ put_at 0 (last_answer left) out
  unfolding last_answer when◌then◌else◌
  nothing_left e = rw (eq-eqb left 0 e)

  pub some_left : (left ≡ 0 → ⊥) → longest_answer ≤ length out → (f : Fault) (l : List ℕ) →
      written f l ≡ laid (refusal_bytes 2) out → put 4 l ≡ put_at 0 (last_answer left) out
  unfolding last_answer when◌then◌else◌ refusal_bytes big_endian
  some_left some h f l w = rw (ne_eqb left 0 some) (ap (λ (x : Written). put 4 x.contents) (w
      ∙ laid-there (refusal_bytes 2) out (omega arith)))
