-- Bytes of the moved record put one behind the other. Assumes nothing.
use Prim.Native.Nat.{ℕ, zero, suc, ◌+◌, ◌-◌, ◌*◌, ◌≤◌, ◌<◌}
use native.Mathlib.Omega.{arith}
use native.Mathlib.Nat.{mul-suc, mul-zero, zero-add, add-zero, sub-zero}
use mathlib.Core.Path.{◌≡◌, refl, sym, ap, ◌∙◌}
use mathlib.Core.List.{List, [], ◌∷◌, ◌++◌, append_assoc}
use lib.ListN.{length, take, drop, length-append, length-drop}
use lib.Seq.{sets, sets-eq, drop-drop, length-take-le}
use Rattle.fields.specs.Bytes.{big_endian}
use borrow.Rule.Slice.PartMut.{put_mid}
use Rattle.words.specs.Words.{word_bytes}
use Rattle.fields.proofs.ByteLaws.{length-big-endian}
use Rattle.fields.proofs.WordLaws.{word-stored}
use Rattle.scene_records.specs.declared.Version.{Version}
use Rattle.scene_records.specs.declared.Version.TheVariants.{One, Two}
use Rattle.fields.proofs.StoreLaws.{sets-append}
use Rattle.scene_records.specs.Versions.{byte_of}
use Rattle.scene_moves.specs.Moves.{number_bytes, number_size, line_size, moved_lines, lines_start, moved_length}
use Rattle.scene_moves.specs.Moves.{moved_bytes}

-- ---- a part of a list copied to a place of another

pub part-put : (l r part : List ℕ) (at from count : ℕ) → at + count ≤ length l → from + count ≤ length r →
    part ≡ take (from + count - from) (drop from r) → put_mid at (at + count - at) l part ≡ sets l at (take count (drop from r))
part-put l r part at from count room there e =
    let same : from + count - from ≡ count = omega arith in
    let own : at + count - at ≡ count = omega arith in
    let moved = take count (drop from r) in
    let size : length moved ≡ count = length-take-le count (drop from r) (rw length-drop (omega arith)) in
    let held : part ≡ moved = rw same at e in
    let rest : drop count (drop at l) ≡ drop (at + length moved) l = rw size (drop-drop count at l) in
    rw (own, held, rest)
    (sym (append_assoc (take at l) moved (drop (at + length moved) l)) ∙ sym (sets-eq moved l at (rw size room)))

-- ---- the start

pub start-put : (l p b whole s : List ℕ) (size version start : ℕ) → p ≡ sets l 0 (big_endian 2 (size - 2)) →
    b ≡ sets p 2 (version ∷ []) → whole ≡ sets b 3 (take (start - 3) (drop 3 s))
    → whole ≡ sets l 0 (big_endian 2 (size - 2) ++ (version ∷ []) ++ take (start - 3) (drop 3 s))
start-put l p b whole s size version start e f g =
    rw (
      sets-append l 0 (big_endian 2 (size - 2) ++ (version ∷ [])) (take (start - 3) (drop 3 s)),
      sets-append l 0 (big_endian 2 (size - 2)) (version ∷ []),
      length-append (big_endian 2 (size - 2)) (version ∷ []),
      length-big-endian 2 (size - 2),
      ← e,
      ← f,
    ) g

-- ---- the lines

pub number-long : (v : Version) (n : ℕ) → length (number_bytes v n) ≡ number_size v
unfolding number_bytes
number-long One n = refl
number-long Two n = length-big-endian 4 n

-- a line's bytes on the other side, from the bytes that begin with it
abbrev pub line_moved : Version → Version → List ℕ → List ℕ
line_moved v w r = number_bytes w 0 ++ take 16 (drop (number_size v) r)

line-long : (v w : Version) (r : List ℕ) → line_size v ≤ length r → length (line_moved v w r) ≡ line_size w
line-long v w r h =
    let size : length (take 16 (drop (number_size v) r)) ≡ 16 =
    length-take-le 16 (drop (number_size v) r) (rw length-drop (omega arith)) in
    length-append (number_bytes w 0) (take 16 (drop (number_size v) r)) ∙ rw (number-long w 0, size)

-- ---- one line put

pub numbered-put : (b m c r : List ℕ) (at : ℕ) → m ≡ sets b at (word_bytes 0) → c ≡ sets m (at + 4) r →
    c ≡ sets b at (number_bytes Two 0 ++ r)
unfolding number_bytes
numbered-put b m c r at e f =
    rw (sets-append b at (big_endian 4 0) r, length-big-endian 4 0, ← word-stored 0, ← e) f

-- ---- line behind line

one_more : (v : Version) (i : ℕ) → line_size v * (i + 1) ≡ line_size v * i + line_size v
one_more One i = omega arith
one_more Two i = omega arith

pub lines-few : (v : Version) (n : ℕ) → line_size v * n ≤ 20 * n
lines-few One n = omega arith
lines-few Two n = omega arith

pub room-left : (v : Version) (i n : ℕ) → i < n → line_size v * i + line_size v ≤ line_size v * n
room-left One i n h = omega arith
room-left Two i n h = omega arith

module _ (v w : Version) (b₀ s : List ℕ) (start n : ℕ) where
  -- the first i of n lines are put: with the others it comes to all of them
  pub record Putting (b : List ℕ) (i : ℕ) : Type 0 where
    pub within : i ≤ n
    pub sized : length b ≡ length b₀
    pub same : sets b₀ start (moved_lines v w n (drop start s))
        ≡ sets b (start + line_size w * i) (moved_lines v w (n - i) (drop (start + line_size v * i) s))

  pub putting-begins : Putting b₀ 0
  putting-begins = record { within = omega arith; sized = refl; same = simp (mul-zero, add-zero, sub-zero) }

  pub putting-on : (b c : List ℕ) (i : ℕ) → Putting b i → i < n → start + line_size v * n ≤ length s →
      length c ≡ length b →
      c ≡ sets b (start + line_size w * i) (line_moved v w (drop (start + line_size v * i) s)) → Putting c (i + 1)
  unfolding moved_lines
  putting-on b c i p h room size e =
      let r = drop (start + line_size v * i) s in
      let long : line_size v ≤ length r = rw length-drop (omega (arith, room-left v i n h)) in
      let left : n - i ≡ suc (n - (i + 1)) = omega arith in
      let place : start + line_size w * (i + 1) ≡ start + line_size w * i + line_size w = omega (arith, one_more w i) in
      let next : start + line_size v * (i + 1) ≡ start + line_size v * i + line_size v = omega (arith, one_more v i) in
      let rest : drop (start + line_size v * (i + 1)) s ≡ drop (line_size v) r =
      ap (λ (k : ℕ). drop k s) next ∙ sym (drop-drop (line_size v) (start + line_size v * i) s) in
      record {
        within = omega arith;
        sized = size ∙ p.sized;
        same = p.same
            ∙ rw (
              left,
              sets-append b (start + line_size w * i) (line_moved v w r)
                  (moved_lines v w (n - (i + 1)) (drop (line_size v) r)),
              line-long v w r long,
              ← e,
              place,
              rest,
            );
      }

  pub putting-done : (b : List ℕ) (i : ℕ) → Putting b i → n ≤ i → b ≡ sets b₀ start (moved_lines v w n (drop start s))
  unfolding moved_lines
  putting-done b i p h = let none : n - i ≡ 0 = omega arith in sym (p.same ∙ rw none refl)

-- ---- the whole

pub lines_long : (v w : Version) (n : ℕ) (r : List ℕ) → line_size v * n ≤ length r →
    length (moved_lines v w n r) ≡ line_size w * n
unfolding moved_lines
lines_long v w zero r h = rw mul-zero
lines_long v w (suc n) r h =
    let one : line_size v ≤ length r = omega (arith, mul-suc (line_size v) n) in
    let rest : line_size v * n ≤ length (drop (line_size v) r) = rw length-drop (omega (arith, mul-suc (line_size v) n)) in
    length-append (line_moved v w r) (moved_lines v w n (drop (line_size v) r))
    ∙ rw (line-long v w r one, lines_long v w n (drop (line_size v) r) rest) (omega (arith, mul-suc (line_size w) n))

module _ (v w : Version) (n : ℕ) (s : List ℕ) (room : 41 + line_size v * n ≤ length s) where
  abbrev start : ℕ
  start = lines_start v n s

  abbrev start_bytes : List ℕ
  start_bytes = big_endian 2 (moved_length v w n s - 2) ++ (byte_of w ∷ []) ++ take (start - 3) (drop 3 s)

  start-long : length start_bytes ≡ start
  start-long =
      let size : length (take (start - 3) (drop 3 s)) ≡ start - 3 =
      length-take-le (start - 3) (drop 3 s) (rw length-drop (omega arith)) in
      length-append (big_endian 2 (moved_length v w n s - 2) ++ (byte_of w ∷ [])) (take (start - 3) (drop 3 s))
      ∙ rw (
        length-append (big_endian 2 (moved_length v w n s - 2)) (byte_of w ∷ []),
        length-big-endian 2 (moved_length v w n s - 2),
        size,
      ) (omega arith)

  pub moved-long : length (moved_bytes v w n s) ≡ moved_length v w n s
  unfolding moved_bytes
  moved-long = length-append start_bytes (moved_lines v w n (drop start s))
      ∙ rw (start-long, lines_long v w n (drop start s) (rw length-drop (omega arith)))

  pub moved-put : (l m k : List ℕ) → m ≡ sets l 0 start_bytes → k ≡ sets m start (moved_lines v w n (drop start s)) →
      k ≡ sets l 0 (moved_bytes v w n s)
  unfolding moved_bytes
  moved-put l m k e f =
      rw (sets-append l 0 start_bytes (moved_lines v w n (drop start s)), start-long, ← e) (rw zero-add f)
