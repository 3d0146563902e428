-- Laws of the work on a stream: it goes part by part, so that a law of it may be proved part by part; and bytes to be
-- skipped may be skipped in two goes. Assumes nothing.
use Prim.Native.Nat.{ℕ, zero, suc, ◌+◌, ◌-◌, ◌≤◌, ◌<◌}
use native.Mathlib.Omega.{arith}
use native.Mathlib.Nat.{zero-add, add_assoc}
use mathlib.Core.Path.{◌≡◌, refl, sym, ap, ◌∙◌}
use mathlib.Core.Bool.{Bool, true, false}
use mathlib.Core.List.{List, [], ◌++◌, append_assoc}
use lib.ListN.{length, take, drop, length-drop}
use lib.Seq.{drop-drop}
use native.Mathlib.Decide.{dec_lt}
use Rattle.arithmetic.specs.Binary32.{when◌then◌else◌}
use Rattle.answer_records.specs.Answers.{refusal_bytes}
use Rattle.records.specs.Answered.{reply_to}
use Rattle.records.specs.Parts.{Part, skipped, overlong, whole, cut_short, part_in}
use Rattle.records.specs.Streams.{Room, unlimited, has_room, less, Worked, stopped, after, onward, parts, worked}
use Rattle.records.proofs.PartLaws.{Lies, skips, names, holds, none, lies, all-skipped, as-many-skipped}

-- ---- behind a part

pub after_nothing : (w : Worked) → after 0 [] w ≡ w
after_nothing w = rw zero-add

pub after-after : (j k : ℕ) (x y : List ℕ) (w : Worked) → after j x (after k y w) ≡ after (j + k) (x ++ y) w
after-after j k x y w = rw (add_assoc, append_assoc)

-- two ways on that agree behind every part agree
onward-agrees : (f g : Room → ℕ → List ℕ → Worked) (room : Room) (skip : ℕ) (l : List ℕ) (q : Part) → Lies skip l q →
    ((r : Room) (s k : ℕ) → 1 ≤ k → k ≤ length l → f r s (drop k l) ≡ g r s (drop k l)) → onward f room skip l q
    ≡ onward g room skip l q
onward-agrees f g room skip l (skipped k) (skips a b c) same = rw (same room (skip - k) k a c)
onward-agrees f g room skip l (overlong n) (names z two far e) same =
    rw (same (less room (length (refusal_bytes 4))) n 2 (omega arith) two)
onward-agrees f g room skip l (whole k) (holds z two near there e) same =
    rw (same (less room (length (reply_to (take k l)))) 0 k (omega arith) there)
onward-agrees f g room skip l cut_short (none few) same = refl

-- nothing is a part of no bytes
no_part : (skip : ℕ) (l : List ℕ) (q : Part) → Lies skip l q → length l ≤ 0 → q ≡ cut_short
no_part skip l (skipped k) (skips a b c) h = absurd (omega arith)
no_part skip l (overlong n) (names z two far e) h = absurd (omega arith)
no_part skip l (whole k) (holds z two near there e) h = absurd (omega arith)
no_part skip l cut_short (none few) h = refl

either_way : {A : Type 0} (b : Bool) (x : A) → (when b then x else x) ≡ x
unfolding when◌then◌else◌
either_way true x = refl
either_way false x = refl

at-end : (n : ℕ) (room : Room) (skip : ℕ) (l : List ℕ) → length l ≤ 0 → parts n room skip l ≡ stopped skip
unfolding parts
at-end zero room skip l h = refl
at-end (suc n) room skip l h = rw (no_part skip l (part_in skip l) (lies skip l) h) (either_way (has_room room) (stopped skip))

-- more parts than bytes change nothing
enough : (n m : ℕ) (room : Room) (skip : ℕ) (l : List ℕ) → length l ≤ n → length l ≤ m → parts n room skip l ≡ parts m room skip l
unfolding parts
enough zero zero room skip l h k = refl
enough zero (suc m) room skip l h k = sym (at-end (suc m) room skip l h)
enough (suc n) zero room skip l h k = at-end (suc n) room skip l k
enough (suc n) (suc m) room skip l h k =
    ap (λ (w : Worked). when has_room room then w else stopped skip)
    (onward-agrees (parts n) (parts m) room skip l (part_in skip l) (lies skip l)
    (λ r s j a c. enough n m r s (drop j l) (rw length-drop (omega arith)) (rw length-drop (omega arith))))

-- the work is a part, where there is room, and the work on what lies behind it
pub work-on : (room : Room) (skip : ℕ) (l : List ℕ) →
    worked room skip l ≡ (when has_room room then onward worked room skip l (part_in skip l) else stopped skip)
unfolding worked parts
work-on room skip l =
    enough (length l) (suc (length l)) room skip l (omega arith) (omega arith)
    ∙ ap (λ (w : Worked). when has_room room then w else stopped skip)
    (onward-agrees (parts (length l)) worked room skip l (part_in skip l) (lies skip l)
    (λ r s j a c. enough (length l) (length (drop j l)) r s (drop j l) (rw length-drop (omega arith)) (omega arith)))

-- with room enough
pub work-freely : (skip : ℕ) (l : List ℕ) → worked unlimited skip l ≡ onward worked unlimited skip l (part_in skip l)
unfolding when◌then◌else◌
work-freely skip l = work-on unlimited skip l

-- what holds of a stream wherever it holds of all that may lie behind a part of it holds of every stream
pub by_parts : (P : List ℕ → Type 0) → ((l : List ℕ) → ((k : ℕ) → 1 ≤ k → k ≤ length l → P (drop k l)) → P l) → (l : List ℕ) → P l
by_parts P step l = go (length l) l (omega arith)
  where
    go : (n : ℕ) (l : List ℕ) → length l ≤ n → P l
    go zero l h = step l λ k one there. absurd (omega arith)
    go (suc n) l h = step l λ k one there. go n (drop k l) (rw length-drop (omega arith))

-- ---- bytes to be skipped

skip-freely : (skip k : ℕ) (l : List ℕ) → part_in skip l ≡ skipped k → worked unlimited skip l
    ≡ after k [] (worked unlimited (skip - k) (drop k l))
skip-freely skip k l e = work-freely skip l ∙ rw e

-- they may be skipped in two goes
two-goes : (skip k m : ℕ) (l : List ℕ) → k ≤ m → m ≤ skip → part_in skip l ≡ skipped m → part_in (skip - k) (drop k l)
    ≡ skipped (m - k) →
    worked unlimited skip l ≡ after k [] (worked unlimited (skip - k) (drop k l))
two-goes skip k m l h j e f =
    let rest : skip - k - (m - k) ≡ skip - m = omega arith in
    let all : k + (m - k) ≡ m = omega arith in
    skip-freely skip m l e
    ∙ sym (ap (after k []) (skip-freely (skip - k) (m - k) (drop k l) f)
    ∙ after-after k (m - k) [] [] (worked unlimited (skip - k - (m - k)) (drop (m - k) (drop k l)))
    ∙ rw (drop-drop, rest, all))

pub skip-some : (skip k : ℕ) (l : List ℕ) → 1 ≤ k → k ≤ skip → k ≤ length l → worked unlimited skip l
    ≡ after k [] (worked unlimited (skip - k) (drop k l))
skip-some skip k l one a b = go (dec_lt (length l) skip) (dec_lt k skip) (dec_lt k (length l))
  where
    left : length (drop k l) ≡ length l - k
    left = length-drop k l

    go : Dec (length l < skip) → Dec (k < skip) → Dec (k < length l) → worked unlimited skip l
        ≡ after k [] (worked unlimited (skip - k) (drop k l))
    go (yes p) q (yes r) =
        two-goes skip k (length l) l b (omega arith) (all-skipped skip l (omega arith) (omega arith) p)
        (rw left at (all-skipped (skip - k) (drop k l) (omega arith) (rw left (omega arith)) (rw left (omega arith))))
    go (yes p) q (no r) =
        let e : length l ≡ k = omega arith in
        skip-freely skip k l (rw e at (all-skipped skip l (omega arith) (omega arith) p))
    go (no p) (yes q) r =
        two-goes skip k skip l a (omega arith) (as-many-skipped skip l (omega arith) (omega arith) (omega arith))
        (as-many-skipped (skip - k) (drop k l) (omega arith) (rw left (omega arith)) (rw left (omega arith)))
    go (no p) (no q) r =
        let e : skip ≡ k = omega arith in
        skip-freely skip k l (as-many-skipped skip l (omega arith) (omega arith) (omega arith) ∙ ap skipped e)
