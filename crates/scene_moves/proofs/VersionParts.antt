-- The bytes of a record's parts in either version; a record that was read is those of its parts, and such bytes are
-- read back. Assumes nothing.
use Prim.Native.Nat.{ℕ, ◌+◌, ◌-◌, ◌*◌, ◌^◌, ◌≤◌, ◌<◌}
use native.Mathlib.Omega.{arith}
use native.Mathlib.Nat.{le_trans}
use mathlib.Core.Path.{◌≡◌, refl, sym, ap, ◌∙◌}
use mathlib.Core.List.{List, [], ◌++◌, append_assoc, append-nil}
use lib.Dec.{lit<}
use lib.ListN.{length, drop, length-drop, length-append}
use lib.Seq.{drop-length}
use Rattle.fields.specs.Bytes.{big_endian, each, AllBytes}
use Rattle.fields.specs.Got.{got, word}
use Rattle.fields.proofs.ByteLaws.{length-big-endian}
use Rattle.fields.proofs.ChainLaws.{then-got, got_same}
use Rattle.fields.proofs.Spans.{Span, join, word_fits, word-span, many-span}
use Rattle.fields.proofs.Backs.{Back, taking, word_back, Every, many-back}
use Rattle.scene_records.specs.declared.Version.{Version}
use Rattle.scene_records.specs.declared.Version.TheVariants.{One, Two}
use Rattle.scene_records.specs.Parts.{cart, size_of, obstacle, obstacles, neighbour}
use Rattle.scene_records.specs.SceneBytes.{cart_bytes, obstacle_bytes, line_bytes}
use Rattle.scene_records.specs.Versions.{byte_of, longest_either, longest_of, line_number, NumberedLine, numbered, numbered_line, numbered_lines, SceneParts, parts_made, parts_in}
use Rattle.scene_records.proofs.Taken.{numbered-taken, record-taken}
use Rattle.scene_records.proofs.ReadBytes.{cart-span, obstacle-span, line-span}
use Rattle.scene_records.proofs.WrittenParts.{GoodCart, GoodObstacle, GoodLine, on_total, cart-back, obstacle-back, line-back, length-cart, length-each, length-line, length-obstacles}
use Rattle.scene_records.proofs.VersionLaws.{record-gives}
use Rattle.scene_moves.specs.Moves.{number_bytes, line_size}
use Rattle.scene_moves.proofs.ReadGood.{many-good, cart-good, obstacles-good, line-good}

-- ---- the bytes

unfoldable pub numbered_line_bytes : Version → NumberedLine → List ℕ
numbered_line_bytes v l = number_bytes v l.number ++ line_bytes l.line

-- between the version and the lines
unfoldable pub middle_bytes : SceneParts → List ℕ
middle_bytes p = cart_bytes p.cart ++ big_endian 1 (length p.obstacles) ++ each obstacle_bytes p.obstacles
    ++ big_endian 1 (length p.neighbours)

unfoldable pub versioned_body : Version → SceneParts → List ℕ
versioned_body v p =
    big_endian 1 (byte_of v) ++ cart_bytes p.cart ++ big_endian 1 (length p.obstacles) ++ each obstacle_bytes
    p.obstacles ++ big_endian 1 (length p.neighbours)
    ++ each (numbered_line_bytes v) p.neighbours

unfoldable pub versioned_bytes : Version → SceneParts → List ℕ
versioned_bytes v p = big_endian 2 (length (versioned_body v p)) ++ versioned_body v p

-- ---- what is admitted

-- what a number under a version may be: none is written under version 1
abbrev pub GoodNumber : Version → ℕ → Type 0
GoodNumber One n = n ≡ 0
GoodNumber Two n = n < 256 ^ 4

pub record GoodNumbered (v : Version) (l : NumberedLine) : Type 0 where
  pub number : GoodNumber v l.number
  pub line : GoodLine l.line

pub record GoodRecord (v : Version) (p : SceneParts) : Type 0 where
  pub cart : GoodCart p.cart
  pub few : length p.obstacles ≤ 16
  pub obstacles : Every GoodObstacle on_total 0 p.obstacles
  pub fewer : length p.neighbours ≤ 64
  pub lines : Every (λ (u : Unit {0}). GoodNumbered v) (λ u l. u) tt p.neighbours

byte_small : (v : Version) → byte_of v < 256 ^ 1
byte_small One = lit< tt
byte_small Two = lit< tt

lines_fit : (v : Version) (n : ℕ) → n ≤ 64 → 1607 + line_size v * n ≤ longest_of v
lines_fit One n h = omega arith
lines_fit Two n h = omega arith

longest-fits : (v : Version) → (longest_of v ≤ 2887)
longest-fits One = omega arith
longest-fits Two = omega arith

-- ---- what a record that was read tells

pub parts-taken : {C : Type 0} (s : List ℕ) (v : Version) (p : SceneParts) (m : ℕ) → parts_in v s ≡ got p m
    → ((n b d e f : ℕ) → word 2 s 0 ≡ got n 2 → n ≡ length s - 2 → n ≤ longest_either → word 1 s 2 ≡ got (byte_of v) 3 →
    length s - 2 ≤ longest_of v → cart s 3 ≡ got p.cart b
    → word 1 s b ≡ got (length p.obstacles) d → length p.obstacles ≤ 16 → obstacles s (length p.obstacles) 0 d
    ≡ got p.obstacles e
    → word 1 s e ≡ got (length p.neighbours) f → length p.neighbours ≤ 64 →
    numbered_lines v s (length p.neighbours) f ≡ got p.neighbours m → m ≡ length s → C) → C
parts-taken {C} s v p m z next =
    record-taken s parts_made v p m z λ n read right few byte fits fields.
    numbered-taken s parts_made v 3 p m fields λ b d e f x os ls read-cart read-os few-os list-os read-ls few-ls list-ls end same.
    let is-cart : p.cart ≡ x = ap (λ (r : SceneParts). r.cart) same in
    let is-os : p.obstacles ≡ os = ap (λ (r : SceneParts). r.obstacles) same in
    let is-ls : p.neighbours ≡ ls = ap (λ (r : SceneParts). r.neighbours) same in
    next n b d e f read right few byte fits (rw is-cart read-cart) (rw is-os read-os) (rw is-os few-os)
    (rw is-os list-os) (rw is-ls read-ls) (rw is-ls few-ls) (rw is-ls list-ls) end

-- ---- what was read is admitted

module _ (s : List ℕ) (h : AllBytes s) where
  line-number-good : (v : Version) (at n m : ℕ) → line_number v s at ≡ got n m → GoodNumber v n
  unfolding line_number
  line-number-good One at n m e = sym (got_same e).0
  line-number-good Two at n m e = (word-span s h 4 at n m e).0

  numbered-good : (v : Version) (at : ℕ) (l : NumberedLine) (m : ℕ) → numbered_line v s at ≡ got l m → GoodNumbered v l
  unfolding numbered_line
  numbered-good v at l m e =
      then-got (line_number v s at) _ e λ n a p r.
      then-got (neighbour s a) _ r λ k b q t.
      rw (← (got_same t).0) (record { number = line-number-good v at n a p; line = line-good s a k b q })

  pub record-good : (v : Version) (p : SceneParts) (m : ℕ) → parts_in v s ≡ got p m → GoodRecord v p
  unfolding numbered_lines
  record-good v p m e =
      parts-taken s v p m e λ n b d i f read-n right few-n read-v fits-n read-cart read-os few list-os read-ls fewer list-ls end.
      record {
        cart = cart-good s 3 p.cart b read-cart;
        few = few;
        obstacles = obstacles-good s _ 0 d p.obstacles i list-os;
        fewer = fewer;
        lines = many-good (λ (u : Unit {0}). numbered_line v s) (λ u l. u) (λ (u : Unit {0}). GoodNumbered v)
            (λ u. numbered-good v) _ tt f p.neighbours m list-ls;
      }

  -- ---- a record that was read is the bytes of its parts

  line-number-span : (v : Version) (at n m : ℕ) → line_number v s at ≡ got n m → Span s at (number_bytes v n) m
  unfolding line_number number_bytes
  line-number-span One at n m e = record { stands = ap (λ (k : ℕ). drop k s) (got_same e).1 }
  line-number-span Two at n m e = (word-span s h 4 at n m e).1

  numbered-span : (v : Version) (at : ℕ) (l : NumberedLine) (m : ℕ) → numbered_line v s at ≡ got l m →
      Span s at (numbered_line_bytes v l) m
  unfolding numbered_line numbered_line_bytes
  numbered-span v at l m e =
      then-got (line_number v s at) _ e λ n a p r.
      then-got (neighbour s a) _ r λ k b q t.
      rw (← (got_same t).0, ← (got_same t).1) (join (line-number-span v at n a p) (line-span s h a k b q))

  pub record-is-bytes : (v : Version) (p : SceneParts) (m : ℕ) → parts_in v s ≡ got p m → s ≡ versioned_bytes v p
  unfolding versioned_bytes versioned_body obstacles numbered_lines
  record-is-bytes v p m e =
      parts-taken s v p m e λ n b d i f read-n right few-n read-v fits-n read-cart read-os few list-os read-ls fewer list-ls end.
      let start : Span s 2 (big_endian 1 (byte_of v) ++ cart_bytes p.cart) b =
      join (word-span s h 1 2 (byte_of v) 3 read-v).1 (cart-span s h 3 p.cart b read-cart) in
      let walls : Span s 2 _ i = join (join start (word-span s h 1 b (length p.obstacles) d read-os).1)
      (many-span s (obstacle s) (λ t o. t + size_of o) obstacle_bytes (obstacle-span s h) (length p.obstacles) 0 d
      p.obstacles i list-os) in
      let body : Span s 2 (versioned_body v p) m =
      join (join walls (word-span s h 1 i (length p.neighbours) f read-ls).1)
      (many-span s (λ (u : Unit {0}). numbered_line v s) (λ u l. u) (numbered_line_bytes v) (λ u. numbered-span v)
      (length p.neighbours) tt f p.neighbours m list-ls) in
      let rest : drop 2 s ≡ versioned_body v p = body.stands ∙ rw (end, drop-length s) (append-nil (versioned_body v p)) in
      let size : length (versioned_body v p) ≡ n = ap length (sym rest) ∙ length-drop 2 s ∙ sym right in
      rw size ((word-span s h 2 0 n 2 read-n).1.stands ∙ ap (λ (r : List ℕ). big_endian 2 n ++ r) rest)

-- ---- the bytes of admitted parts are read back

module _ (s : List ℕ) where
  numbered-back : (v : Version) (at : ℕ) (l : NumberedLine) (r : List ℕ) → GoodNumbered v l →
      drop at s ≡ numbered_line_bytes v l ++ r → Back s (numbered_line v s at) l r
  unfolding numbered_line line_number numbered_line_bytes number_bytes
  numbered-back One at l r ok e =
      taking (line-back s at l.line r ok.line e) λ a g i k.
      record { place = a; gives = rw g (ap (λ (n : ℕ). got (numbered n l.line) a) (sym ok.number)); bound = i; left = k }
  numbered-back Two at l r ok e =
      taking (word_back s 4 at l.number _ (lit< tt) ok.number (rw append_assoc at e)) λ a g i k.
      taking (line-back s a l.line r ok.line k) λ b f j w.
      record { place = b; gives = rw (g, f); bound = j; left = w }

  module _ (v : Version) (p : SceneParts) (ok : GoodRecord v p) where
    body_back : (n : ℕ) → word 2 s 0 ≡ got n 2 → n ≡ length s - 2 → n ≤ longest_of v → drop 2 s ≡ versioned_body v p →
        parts_in v s ≡ got p (length s)
    unfolding versioned_body obstacles numbered_lines
    body_back n read right fits e =
        taking (word_back s 1 2 (byte_of v) _ (lit< tt) (byte_small v) (simp append_assoc at e)) λ p1 g1 i1 l1.
        let place : p1 ≡ 3 = (word_fits s 1 2 (byte_of v) p1 g1).0 in
        taking (cart-back s p1 p.cart _ ok.cart l1) λ p2 g2 i2 l2.
        taking (word_back s 1 p2 (length p.obstacles) _ (lit< tt) (omega (arith, ok.few)) l2) λ p3 g3 i3 l3.
        taking (many-back s (obstacle s) on_total obstacle_bytes GoodObstacle (obstacle-back s) p.obstacles 0 p3 _ i3
        ok.obstacles l3) λ p4 g4 i4 l4.
        taking (word_back s 1 p4 (length p.neighbours) _ (lit< tt) (omega (arith, ok.fewer)) l4) λ p5 g5 i5 l5.
        taking (many-back s (λ (u : Unit {0}). numbered_line v s) (λ u l. u) (numbered_line_bytes v) _
        (λ u at l r. numbered-back v at l r) p.neighbours tt p5 [] i5 ok.lines (l5
        ∙ sym (append-nil _))) λ p6 g6 i6 l6.
        let end : p6 ≡ length s = (let z : length s - p6 ≡ 0 = sym (length-drop p6 s) ∙ ap length l6 in omega arith) in
        let most : n ≤ longest_either = le_trans fits (longest-fits v) in
        rw (← end) (record-gives parts_made v s n p2 p3 p4 p5 p6 p.cart p.obstacles p.neighbours read right most
        (rw place at g1) (rw right at fits) (rw place at g2) g3 ok.few g4 g5 ok.fewer g6 end)

-- ---- how long a record is

pub length-numbered : (v : Version) (l : NumberedLine) → length (numbered_line_bytes v l) ≡ line_size v
unfolding numbered_line_bytes number_bytes
length-numbered One l = length-line l.line
length-numbered Two l =
    length-append (big_endian 4 l.number) (line_bytes l.line) ∙ rw (length-big-endian, length-line l.line)

module _ (v : Version) (p : SceneParts) (ok : GoodRecord v p) where
  pub length-versioned : length (versioned_body v p) ≤ longest_of v
  unfolding versioned_body
  length-versioned =
      let r = length-obstacles 0 p.obstacles (omega arith) ok.obstacles in
      let k = lines_fit v (length p.neighbours) ok.fewer in
      simp (
        length-append,
        length-big-endian,
        length-cart,
        length-each (numbered_line_bytes v) (line_size v)
            (length-numbered v),
      ) (omega (arith, ok.few, ok.fewer))

  pub record-read : parts_in v (versioned_bytes v p) ≡ got p (length (versioned_bytes v p))
  unfolding versioned_bytes
  record-read =
      let n : length (versioned_body v p) ≤ longest_of v = length-versioned in
      let m : longest_of v ≤ 2887 = longest-fits v in
      let s : List ℕ = big_endian 2 (length (versioned_body v p)) ++ versioned_body v p in
      let e : length (versioned_body v p) ≡ length s - 2 =
      (let k = length-append (big_endian 2 (length (versioned_body v p))) (versioned_body v p) in let j =
      length-big-endian 2 (length (versioned_body v p)) in omega arith) in
      taking (word_back s 2 0 (length (versioned_body v p)) (versioned_body v p) (lit< tt) (omega arith) refl) λ a g i d.
      let place : a ≡ 2 = (word_fits s 2 0 _ a g).0 in
      body_back s v p ok (length (versioned_body v p)) (rw place at g) e n (rw place at d)
