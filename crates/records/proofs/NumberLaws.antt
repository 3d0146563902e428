-- 02, T-07: a neighbour's number does not reach the answer. Assumes nothing.
use Prim.Native.Nat.{ℕ, zero, suc, ◌+◌, ◌-◌, ◌*◌, ◌%◌, ◌≤◌, ◌<◌}
use mathlib.Core.Path.{◌≡◌, refl, sym, ap, ◌∙◌}
use mathlib.Core.Bool.{Bool, true, false, ◌&&◌}
use mathlib.Core.List.{List, map}
use native.Mathlib.Omega.{arith}
use lib.Dec.{leb, ltb, eqb}
use lib.ListN.{length, get_or, length-map}
use lib.Seq.{ext_get_or}
use borrow.Author.Tests.{le-ltb, lt-leb}
use Rattle.dodgy_2d.specs.declared.Scene.{Scene}
use Rattle.dodgy_2d.specs.Outcomes.{scene_outcome}
use Rattle.fields.specs.Got.{Got, refused, got, then, guard, word, many}
use Rattle.fields.proofs.ChainLaws.{then-got}
use Rattle.scene_records.specs.declared.Version.{Version}
use Rattle.scene_records.specs.declared.Version.TheVariants.{Two}
use Rattle.scene_records.specs.Steps.{count, ended}
use Rattle.scene_records.specs.declared.Cart.{Cart}
use Rattle.scene_records.specs.Parts.{cart, Obstacle, obstacles}
use Rattle.scene_records.specs.Records.{announced}
use Rattle.scene_records.specs.Versions.{longest_either, either_version, line_number, NumberedLine, numbered_line, numbered_lines, fields_with, behind_version, SceneParts, parts_in, line_of, Numbered, scene_made, scene_in}
use Rattle.scene_records.proofs.VersionLaws.{numbered_of, parts-read}
use Rattle.records.specs.Answered.{of_outcome, of_reading, answered, reply_bytes, reply_to}
use Rattle.records.specs.Numbers.{lines_from, number_stands, SameButNumbers}
use Rattle.records.proofs.PlaceLaws.{kept-told, cart-kept, count_kept, obstacles-kept, word_same, Both, Equal, both-refused, both-got, guard-both, then-both, then_equal, word-there, word-both, neighbour-both}

-- Records of whichever versions that differ in their neighbours' numbers alone get the same reply.
pub numbers-do-not-matter : (s t : List ℕ) (v w : Version) (p q : SceneParts) (m k : ℕ) → parts_in v s ≡ got p m →
    parts_in w t ≡ got q k
    → p.cart ≡ q.cart → p.obstacles ≡ q.obstacles → map line_of p.neighbours ≡ map line_of q.neighbours →
    reply_to s ≡ reply_to t
unfolding reply_to answered
numbers-do-not-matter s t v w p q m k e f cart obstacles lines =
    let many : length p.neighbours ≡ length q.neighbours = sym (length-map p.neighbours line_of)
    ∙ ap length lines ∙ length-map q.neighbours line_of in
    let same : (numbered_of p).scene ≡ (numbered_of q).scene = rw (cart, obstacles, lines, many) in
    rw (parts-read s v p m e, parts-read t w q k f) (ap (λ (c : Scene). reply_bytes (of_outcome (scene_outcome c))) same)

-- ---- records of version 2 that are refused, too: where they differ in the numbers alone, they are read alike

-- the same lines, whatever their numbers
abbrev SameLine : NumberedLine → NumberedLine → Type 0
SameLine a b = line_of a ≡ line_of b

abbrev SameLines : List NumberedLine → List NumberedLine → Type 0
SameLines a b = map line_of a ≡ map line_of b

abbrev SameScene : Numbered → Numbered → Type 0
SameScene a b = a.scene ≡ b.scene

module _ (s t : List ℕ) (long : length s ≡ length t) where
  line-both : (at : ℕ) → ((i : ℕ) → 4 ≤ i → i < 20 → get_or s (at + i) 0 ≡ get_or t (at + i) 0) →
      Both SameLine (at + 20) (numbered_line Two s at) (numbered_line Two t at)
  unfolding numbered_line line_number
  line-both at same =
      let e : at + 4 + 16 ≡ at + 20 = omega arith in
      then-both _ _ (word-there s t long 4 at) λ n k u.
      then_equal _ _ (rw e at (neighbour-both s t long (at + 4) (λ i h.
      let f : at + 4 + i ≡ at + (4 + i) = omega arith in
      rw f (same (4 + i) (omega arith) (omega arith))))) λ l. both-got refl

  lines-both : (n at : ℕ) → ((j i : ℕ) → j < n → 4 ≤ i → i < 20 → get_or s (at + (20 * j + i)) 0 ≡ get_or t (at + (20 * j + i)) 0) →
      Both SameLines (at + 20 * n) (numbered_lines Two s n at) (numbered_lines Two t n at)
  unfolding numbered_lines many
  lines-both zero at same = let e : at + 20 * 0 ≡ at = omega arith in rw e (both-got refl)
  lines-both (suc n) at same =
      let e : at + 20 + 20 * n ≡ at + 20 * suc n = omega arith in
      then-both _ _ (line-both at (λ i low high.
      let f : at + (20 * 0 + i) ≡ at + i = omega arith in
      rw f at (same 0 i (omega arith) low high))) λ a b one.
      then-both _ _ (rw e at (lines-both n (at + 20) (λ j i below low high.
      let f : at + 20 + (20 * j + i) ≡ at + (20 * suc j + i) = omega arith in
      rw f (same (suc j) i (omega arith) low high)))) λ ls ks rest.
      both-got (rw (one, rest))

  -- the same lines up to the place `at`, where both records end or neither
  ended-both : (c : Cart) (n : ℕ) (os : List Obstacle) (m : ℕ) (ls ks : List NumberedLine) (at : ℕ) → SameLines ls ks →
      Both SameScene at (then (ended s at) λ u h. got (scene_made c n os m ls) h) (then (ended t at) λ u h.
      got (scene_made c n os m ks) h)
  unfolding ended
  ended-both c n os m ls ks at lines =
      rw (← long) (by (eqb at (length s)))
    where
      by : (b : Bool) → Both SameScene at (then (guard b 2 (got (tt {0}) at)) λ u h. got (scene_made c n os m ls) h)
          (then (guard b 2 (got (tt {0}) at)) λ u h. got (scene_made c n os m ks) h)
      by true = both-got {a = scene_made c n os m ls} {b = scene_made c n os m ks} (rw lines)
      by false = both-refused

  -- the fields behind the version, whose lines begin at `from`
  module _ (m from : ℕ) (begins : lines_from s ≡ got m from) (same : (i : ℕ) → number_stands (got m from) i ≡ false →
      get_or s i 0 ≡ get_or t i 0) where
    same-before : (i : ℕ) → i < from → get_or s i 0 ≡ get_or t i 0
    unfolding number_stands
    same-before i h = same i (rw (lt-leb from i h))

    same-in-line : (j i : ℕ) → j < m → 4 ≤ i → i < 20 → get_or s (from + (20 * j + i)) 0 ≡ get_or t (from + (20 * j + i)) 0
    unfolding number_stands
    same-in-line j i below low high =
        let part : (from + (20 * j + i) - from) % 20 ≡ i = omega arith in
        same (from + (20 * j + i)) (rw (part, le-ltb i 4 low) (and-false (leb from (from + (20 * j + i)))
        (ltb (from + (20 * j + i)) (from + 20 * m))))
      where
        and-false : (a b : Bool) → (a && b && false) ≡ false
        and-false true true = refl
        and-false true false = refl
        and-false false b = refl

    fields-both : (3 ≤ from) × Both SameScene (from + 20 * m) (fields_with scene_made Two s 3) (fields_with scene_made Two t 3)
    unfolding lines_from fields_with
    fields-both =
        then-got (cart s 3) _ begins λ c b read-cart r1.
        then-got (count 16 s b) _ r1 λ n d read-os r2.
        then-got (obstacles s n 0 d) _ r2 λ os e list-os read-ls.
        let k1 = kept-told (cart-kept s t long from same-before 3) read-cart in
        let k2 = kept-told (count_kept s t long from same-before 16 b) read-os in
        let k3 = kept-told (obstacles-kept s t long from same-before n 0 d) list-os in
        let k4 = kept-told (count_kept s t long from same-before 64 e) read-ls in
        let u2 = k2.0 in let u3 = k3.0 in let u4 = k4.0 in (
          omega (arith, k1.0),
          rw (
            read-cart,
            read-os,
            list-os,
            read-ls,
            k1.1 (omega arith),
            k2.1 (omega arith),
            k3.1 (omega arith),
            k4.1 (omega arith),
          )
              (then-both {Q = SameScene} {n = from + 20 * m} _ _ (lines-both m from same-in-line)
              (λ ls ks. ended-both c n os m ls ks (from + 20 * m))),
        )

    announced-both : 3 ≤ from → Both Equal 2 (announced longest_either s) (announced longest_either t)
    unfolding announced
    announced-both low =
        rw (← long)
        (then_equal {m = 2} _ _ (word-both s t long 2 0 (λ i h. same-before (0 + i) (omega arith))) λ n.
        guard-both (leb n longest_either) 4 (guard-both (eqb n (length s - 2)) 2 (both-got refl)))

    scene-both : word 1 s 2 ≡ got 2 3 → Both SameScene (from + 20 * m) (scene_in s) (scene_in t)
    unfolding scene_in either_version behind_version
    scene-both byte =
        let low = fields-both.0 in
        let other : word 1 t 2 ≡ got 2 3 = sym (word_same s t 1 2 long (λ i h. same-before (2 + i) (omega arith))) ∙ byte in
        then_equal {Q = SameScene} {m = 2} {n = from + 20 * m} _ _ (announced-both low) λ u.
        rw (byte, other, ← long) (guard-both (leb (length s - 2) longest_either) 4 fields-both.1)

  both-answered : {m : ℕ} {g h : Got Numbered} → Both SameScene m g h → of_reading g ≡ of_reading h
  both-answered both-refused = refl
  both-answered (both-got e) = rw e

-- two records of version 2 that differ in their neighbours' numbers alone get the same reply, be it a refusal
pub numbers-change-nothing : (s t : List ℕ) → word 1 s 2 ≡ got 2 3 → SameButNumbers s t → reply_to s ≡ reply_to t
unfolding reply_to answered number_stands
numbers-change-nothing s t byte alike = go (lines_from s) refl
  where
    go : (g : Got ℕ) → lines_from s ≡ g → reply_bytes (of_reading (scene_in s)) ≡ reply_bytes (of_reading (scene_in t))
    go (refused r) e = ap (λ (x : List ℕ). reply_bytes (of_reading (scene_in x)))
        (ext_get_or 0 s t alike.long (λ i h. alike.elsewhere i (rw e refl)))
    go (got m from) e =
        ap reply_bytes (both-answered s t alike.long
        (scene-both s t alike.long m from e (λ i h. alike.elsewhere i (rw e h)) byte))
