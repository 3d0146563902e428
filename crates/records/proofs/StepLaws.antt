-- Laws of one part worked, in the code's words. Assumes nothing.
use Prim.Native.Nat.{ℕ, ◌+◌, ◌-◌, ◌≤◌, ◌<◌}
use native.Mathlib.Omega.{arith}
use native.Mathlib.Nat.{zero-add}
use mathlib.Core.Path.{◌≡◌, sym, ap, ◌∙◌}
use Rattle.std.proofs.Common.{Option, Some, None}
use mathlib.Core.List.{List, [], ◌++◌, append_assoc, append-nil}
use lib.ListN.{length, take, drop, length-drop, drop_of_length-le}
use lib.Seq.{take_all, drop-drop}
use borrow.Author.Tests.{le-leb, lt-leb}
use borrow.Rule.Slice.PartMut.{put_mid, post_of}
use Rattle.arithmetic.specs.Binary32.{when◌then◌else◌}
use Rattle.admission.specs.Faults.{Fault}
use Rattle.fields.specs.Bytes.{big_endian}
use Rattle.answer_records.specs.Answers.{longest_answer, answer_bytes, refusal_bytes, Written, written, laid}
use Rattle.answer_records.proofs.WrittenLaws.{laid-there}
use Rattle.records.specs.declared.Place.{Place}
use Rattle.records.specs.declared.Part.{Part as PartCode}
use Rattle.records.specs.declared.Part.TheVariants as code
use Rattle.records.specs.Answered.{Answered, answer, refusal, answered, reply_bytes, reply_to}
use Rattle.records.specs.Parts.{part_of, part_in}
use Rattle.records.specs.Steps.{Put, put, put_at, goes_on, stops, step_by, step_over}
use Rattle.records.proofs.PartLaws.{Lies, lies, skip-lies, hold-lies}

-- ---- parts of lists

pub rest_of : (n : ℕ) (l : List ℕ) → take (length l - n) (drop n l) ≡ drop n l
rest_of n l = take_all (length l - n) (drop n l) (rw length-drop (omega arith))

pub put-in-part : (n : ℕ) (bytes out part : List ℕ) → n ≤ length out → part ≡ bytes ++ drop (length bytes) (drop n out) →
    put_mid n (length out - n) out part ≡ take n out ++ bytes ++ drop (n + length bytes) out
put-in-part n bytes out part h e =
    let short : length (drop n out) ≤ length out - n = rw length-drop (omega arith) in
    let none : post_of n (length out - n) out ≡ [] = drop_of_length-le (drop n out) short in
    rw (none, append-nil, e, drop-drop) (sym (append_assoc (take n out) bytes (drop (n + length bytes) out)))

-- ---- replies

pub reply-bytes : (a : Answered) → length (reply_bytes a) ≤ longest_answer
unfolding answer_bytes refusal_bytes big_endian
reply-bytes (answer a) = omega arith
reply-bytes (refusal r) = omega arith

pub reply-length : (bytes : List ℕ) → length (reply_to bytes) ≤ longest_answer
unfolding reply_to
reply-length bytes = reply-bytes (answered bytes)

-- ---- steps

module _ (s out : List ℕ) (p : Place) where
  pub no_room : length out - p.put < longest_answer → stops out ≡ step_over s out p
  unfolding step_over when◌then◌else◌
  no_room h = rw (lt-leb longest_answer (length out - p.put) h)

  module _ (room : longest_answer ≤ length out - p.put) (q : Option PartCode) (there : part_of q
      ≡ part_in p.skip (take (length s - p.used) (drop p.used s))) where
    by_part : step_over s out p ≡ step_by s out p (part_of q)
    unfolding step_over when◌then◌else◌
    by_part = rw (le-leb longest_answer (length out - p.put) room, there, rest_of p.used s)

    known : Lies p.skip (drop p.used s) (part_of q)
    known = rw (there, rest_of p.used s) (lies p.skip (drop p.used s))

    pub cut_step : q ≡ None → stops out ≡ step_over s out p
    cut_step e = sym (rw e at by_part)

    module _ (k : ℕ) (e : q ≡ Some (code.Skipped k)) where
      pub skip_step : goes_on (record { used = p.used + k; put = p.put; skip = p.skip - k }) out ≡ step_over s out p
      skip_step = sym (rw e at by_part)

      pub skip-fits : (1 ≤ k) × (k ≤ p.skip) × (k ≤ length s - p.used)
      skip-fits = rw length-drop at (skip-lies (rw e at known))

    module _ (n : ℕ) (e : q ≡ Some (code.Overlong n)) where
      pub overlong-step : (f : Fault) (part : List ℕ) → p.put ≤ length out →
          written f part ≡ laid (refusal_bytes 4) (take (length out - p.put) (drop p.put out)) →
          goes_on (record { used = p.used + 2; put = p.put + 4; skip = n })
          (put_mid p.put (length out - p.put) out part) ≡ step_over s out p
      unfolding refusal_bytes big_endian
      overlong-step f part h w =
          let w' : written f part ≡ laid (refusal_bytes 4) (drop p.put out) = rw (rest_of p.put out) at w in
          let held = ap (λ (x : Written). x.contents) (w'
          ∙ laid-there (refusal_bytes 4) (drop p.put out) (rw length-drop (omega arith))) in
          rw (put-in-part p.put (refusal_bytes 4) out part h held) (sym (rw e at by_part))

    module _ (k : ℕ) (e : q ≡ Some (code.Whole k)) where
      pub whole-step : (r : ℕ) (part : List ℕ) → p.put ≤ length out →
          put r part ≡ put_at 0 (reply_to (take (p.used + k - p.used) (drop p.used s)))
          (take (length out - p.put) (drop p.put out)) →
          goes_on (record { used = p.used + k; put = p.put + r; skip = 0 })
          (put_mid p.put (length out - p.put) out part) ≡ step_over s out p
      whole-step r part h w =
          let count : p.used + k - p.used ≡ k = omega arith in
          let reply = reply_to (take k (drop p.used s)) in
          let w' : put r part ≡ put_at 0 reply (drop p.put out) = rw (count, rest_of p.put out) at w in
          let long : r ≡ length reply = rw zero-add at (ap (λ (x : Put). x.count) w') in
          let held : part ≡ reply ++ drop (length reply) (drop p.put out) =
          rw zero-add at (ap (λ (x : Put). x.contents) w') in
          rw (put-in-part p.put reply out part h held, long) (sym (rw e at by_part))

      pub whole-fits : (2 ≤ k) × (k ≤ length s - p.used)
      whole-fits = rw length-drop at (hold-lies (rw e at known))
