-- Two bytes of output for each of the input, and 18 more, are room enough: the work never stops for want of it. Assumes nothing.
use Prim.Native.Nat.{ℕ, ◌+◌, ◌-◌, ◌*◌, ◌≤◌}
use native.Mathlib.Omega.{arith}
use mathlib.Core.Path.{◌≡◌, refl, sym, ◌∙◌}
use mathlib.Core.List.{List}
use lib.ListN.{length, take, drop, length-drop}
use lib.Seq.{length-take-le}
use borrow.Author.Tests.{le-leb}
use Rattle.arithmetic.specs.Binary32.{when◌then◌else◌}
use Rattle.dodgy_2d.specs.Outcomes.{scene_outcome}
use Rattle.fields.specs.Bytes.{big_endian}
use Rattle.fields.specs.Got.{Got, refused, got}
use Rattle.fields.proofs.Spans.{word_fits}
use Rattle.scene_records.specs.Versions.{Numbered, scene_made, scene_in}
use Rattle.scene_records.proofs.Taken.{number-taken, vector-taken, cart-taken, numbered-taken, record-taken}
use Rattle.scene_records.proofs.VersionLaws.{either-taken}
use Rattle.answer_records.specs.Answers.{longest_answer, refusal_bytes}
use Rattle.records.specs.Answered.{of_outcome, of_reading, answered, reply_bytes, reply_to}
use Rattle.records.specs.Parts.{Part, skipped, overlong, whole, cut_short, part_in}
use Rattle.records.specs.Streams.{unlimited, bytes, onward, worked}
use Rattle.records.proofs.PartLaws.{Lies, skips, names, holds, none, lies}
use Rattle.records.proofs.WorkLaws.{work-on, work-freely, by_parts}
use Rattle.records.proofs.StepLaws.{reply-bytes}

-- ---- a record that is read has many bytes

-- the length, the version and the position alone
accepted-long : (s : List ℕ) (c : Numbered) (m : ℕ) → scene_in s ≡ got c m → 9 ≤ length s
accepted-long s c m e =
    either-taken s c m e λ v e'.
    record-taken s scene_made v c m e' λ n named match near version fits fields.
    numbered-taken s scene_made v 3 c m fields λ b d f g x os ls cart _ _ _ _ _ _ _ _.
    cart-taken s 3 x b cart λ a' _ _ _ _ p _ _ _ _ _ position _ _ _ _ _ _.
    vector-taken s _ 3 p a' position λ k first second.
    number-taken s _ 3 p.x k first λ bits first_word _ _.
    number-taken s _ k p.y a' second λ bits' second_word _ _.
    omega (arith, word_fits s 4 3 bits k first_word, word_fits s 4 k bits' a' second_word)

-- ---- an answer has at most two bytes for each of its record

reading-sparing : (b : List ℕ) (g : Got Numbered) → scene_in b ≡ g → 2 ≤ length b →
    length (reply_bytes (of_reading g)) ≤ 2 * length b
unfolding refusal_bytes big_endian
reading-sparing b (refused r) e h = omega arith
reading-sparing b (got c m) e h = omega (arith, accepted-long b c m e, reply-bytes (of_outcome (scene_outcome c.scene)))

reply-sparing : (b : List ℕ) → 2 ≤ length b → length (reply_to b) ≤ 2 * length b
unfolding reply_to answered
reply-sparing b h = reading-sparing b (scene_in b) refl h

-- ---- room enough

part_free : (n skip : ℕ) (l : List ℕ) (q : Part) → Lies skip l q → 2 * length l + longest_answer ≤ n →
    ((k : ℕ) → 1 ≤ k → k ≤ length l → (m s : ℕ) → 2 * length (drop k l) + longest_answer ≤ m →
    worked (bytes m) s (drop k l) ≡ worked unlimited s (drop k l)) →
    onward worked (bytes n) skip l q ≡ onward worked unlimited skip l q
unfolding refusal_bytes big_endian
part_free n skip l (skipped k) (skips one fits there) h next = rw (next k one there n (skip - k) (rw length-drop (omega arith)))
part_free n skip l (overlong m) (names z two far e) h next =
    rw (next 2 (omega arith) two (n - 4) m (rw length-drop (omega arith)))
part_free n skip l (whole k) (holds z two near there e) h next =
    let size : length (take k l) ≡ k = length-take-le k l there in
    let short : length (reply_to (take k l)) ≤ 2 * k = rw size at (reply-sparing (take k l) (rw size two)) in
    rw (next k (omega arith) there (n - length (reply_to (take k l))) 0 (rw length-drop (omega arith)))
part_free n skip l cut_short (none few) h next = refl

-- With two bytes of output for each of the input and 18 more, the work is that with unlimited room.
pub room-enough : (n skip : ℕ) (l : List ℕ) → 2 * length l + longest_answer ≤ n → worked (bytes n) skip l ≡ worked unlimited skip l
unfolding when◌then◌else◌
room-enough n skip l =
    by_parts (λ (l : List ℕ). (n skip : ℕ) → 2 * length l + longest_answer ≤ n → worked (bytes n) skip l ≡ worked unlimited skip l)
    (λ l next n skip h. work-on (bytes n) skip l
    ∙ rw (le-leb longest_answer n (omega arith), part_free n skip l (part_in skip l) (lies skip l) h next)
    (sym (work-freely skip l)))
    l n skip
