-- Laws of the moves between the versions: there and back gives the same bytes from either side, the moved record is
-- read to the same scene, and a refusal leaves the buffer as it was. Assumes nothing.
use Prim.Native.Nat.{ℕ, ◌+◌, ◌-◌, ◌*◌}
use native.Mathlib.Omega.{arith}
use mathlib.Core.Path.{◌≡◌, refl, sym, ap, ◌∙◌}
use mathlib.Core.Bool.{true}
use mathlib.Core.List.{List, [], ◌∷◌, ◌++◌, map, append_assoc}
use lib.Dec.{eqb, leb, lit<}
use lib.ListN.{length, take, drop, length-append}
use lib.Seq.{take_at, drop_at}
use borrow.Author.Tests.{eqb-true, eq-eqb}
use Rattle.arithmetic.proofs.Choice.{and_left, and_right}
use Rattle.admission.specs.Faults.{fault, must}
use Rattle.admission.proofs.FaultLaws.{no-fault, unless-case}
use Rattle.fields.specs.Bytes.{big_endian, each, AllBytes}
use Rattle.fields.specs.Got.{Got, refused, got}
use Rattle.fields.proofs.ByteLaws.{length-big-endian}
use Rattle.fields.proofs.Backs.{Every}
use Rattle.fields.proofs.ChainLaws.{apart, then-got, guard-got, got_same}
use Rattle.scene_records.specs.declared.Version.{Version}
use Rattle.scene_records.specs.declared.Version.TheVariants.{One, Two}
use Rattle.dodgy_2d.specs.declared.Scene.{Scene}
use Rattle.scene_records.specs.Records.{scene_in_version1}
use Rattle.scene_records.specs.SceneBytes.{line_bytes}
use Rattle.scene_records.specs.Versions.{byte_of, NumberedLine, number_of, SceneParts, parts_in, Numbered, blank_words, scene_in}
use Rattle.scene_records.proofs.WrittenParts.{length-each, length-line}
use Rattle.scene_records.proofs.VersionLaws.{zero_numbered, version-1-same, numbered_of, parts-read}
use Rattle.scene_writer.specs.Writing.{Written, written, laid_scene}
use Rattle.scene_moves.specs.Moves.{number_bytes, number_size, line_size, moved_lines, lines_start, moved_bytes, all_zero, keeps, moved, laid_move, moved_into}
use Rattle.scene_moves.proofs.PutMoves.{number-long}
use Rattle.scene_moves.proofs.VersionParts.{numbered_line_bytes, middle_bytes, versioned_body, versioned_bytes, length-numbered, parts-taken, GoodNumber, GoodNumbered, GoodRecord, record-good, record-is-bytes, record-read}

-- ---- numbers on the way

abbrev GoodLines : Version → List NumberedLine → Type 0
GoodLines v ls = Every (λ (u : Unit {0}). GoodNumbered v) (λ u l. u) tt ls

abbrev Zero : List NumberedLine → Type 0
Zero ls = all_zero (map number_of ls) ≡ true

first-zero : (l : NumberedLine) (ls : List NumberedLine) → Zero (l ∷ ls) → l.number ≡ 0
unfolding all_zero
first-zero l ls z = eqb-true l.number 0 (and_left (eqb l.number 0) (all_zero (map number_of ls)) z)

later-zero : (l : NumberedLine) (ls : List NumberedLine) → Zero (l ∷ ls) → Zero ls
unfolding all_zero
later-zero l ls z = and_right (eqb l.number 0) (all_zero (map number_of ls)) z

zero-good : (w : Version) (n : ℕ) → n ≡ 0 → GoodNumber w n
zero-good One n z = z
zero-good Two n z = rw z (lit< tt)

lines-move : (v w : Version) (ls : List NumberedLine) → Zero ls → GoodLines v ls → GoodLines w ls
lines-move v w [] z ok = tt
lines-move v w (l ∷ ls) z ok = (
  record { number = zero-good w l.number (first-zero l ls z); line = ok.0.line },
  lines-move v w ls (later-zero l ls z) ok.1,
)

lines-zero : (ls : List NumberedLine) → GoodLines One ls → Zero ls
unfolding all_zero
lines-zero [] ok = refl
lines-zero (l ∷ ls) ok = rw (eq-eqb l.number 0 ok.0.number, lines-zero ls ok.1)

-- from which version to which
pub data Way : Version → Version → Type 0 where
  there : Way One Two
  back : Way Two One

-- whichever way a record is moved, its numbers are 0
zero-on-the-way : {v w : Version} → Way v w → (p : SceneParts) → GoodRecord v p → keeps w p ≡ true → Zero p.neighbours
zero-on-the-way there p ok k = lines-zero p.neighbours ok.lines
zero-on-the-way back p ok k = k

good-there : (v w : Version) (p : SceneParts) → GoodRecord v p → Zero p.neighbours → GoodRecord w p
good-there v w p ok z = record {
  cart = ok.cart;
  few = ok.few;
  obstacles = ok.obstacles;
  fewer = ok.fewer;
  lines = lines-move v w p.neighbours z ok.lines;
}

zero-keeps : (v : Version) (p : SceneParts) → Zero p.neighbours → keeps v p ≡ true
zero-keeps One p z = z
zero-keeps Two p z = refl

-- ---- the bytes on the other side are those of the parts

lines-moved : (v w : Version) (ls : List NumberedLine) → Zero ls →
    moved_lines v w (length ls) (each (numbered_line_bytes v) ls) ≡ each (numbered_line_bytes w) ls
unfolding moved_lines each numbered_line_bytes
lines-moved v w [] z = refl
lines-moved v w (l ∷ ls) z =
    let n = l.number in
    let rest = each (numbered_line_bytes v) ls in
    let own : drop (number_size v) (number_bytes v n ++ line_bytes l.line ++ rest) ≡ line_bytes l.line ++ rest =
    ap (drop (number_size v)) (append_assoc (number_bytes v n) (line_bytes l.line) rest)
    ∙ drop_at (number_bytes v n) (line_bytes l.line ++ rest) (number_size v) (number-long v n) in
    let line : take 16 (line_bytes l.line ++ rest) ≡ line_bytes l.line =
    take_at (line_bytes l.line) rest 16 (length-line l.line) in
    let behind : drop (line_size v) (number_bytes v n ++ line_bytes l.line ++ rest) ≡ rest =
    drop_at (number_bytes v n ++ line_bytes l.line) rest (line_size v) (length-numbered v l) in
    rw (own, line, behind, lines-moved v w ls (later-zero l ls z), first-zero l ls z)

byte-written : (w : Version) → (byte_of w ∷ []) ≡ big_endian 1 (byte_of w)
unfolding big_endian
byte-written One = refl
byte-written Two = refl

body-parts : (v : Version) (p : SceneParts) →
    versioned_body v p ≡ big_endian 1 (byte_of v) ++ (middle_bytes p ++ each (numbered_line_bytes v) p.neighbours)
unfolding versioned_body middle_bytes
body-parts v p = simp append_assoc

module _ (v w : Version) (p : SceneParts) where
  abbrev lines : Version → List ℕ
  lines u = each (numbered_line_bytes u) p.neighbours

  abbrev many : ℕ
  many = length p.neighbours

  abbrev front : Version → List ℕ
  front u = big_endian 2 (length (versioned_body u p)) ++ big_endian 1 (byte_of u)

  whole : (u : Version) → versioned_bytes u p ≡ front u ++ (middle_bytes p ++ lines u)
  unfolding versioned_bytes
  whole u =
      ap (λ (b : List ℕ). big_endian 2 (length (versioned_body u p)) ++ b) (body-parts u p)
      ∙ sym (append_assoc (big_endian 2 (length (versioned_body u p))) (big_endian 1 (byte_of u)) (middle_bytes p ++ lines u))

  lines-size : (u : Version) → length (lines u) ≡ line_size u * many
  lines-size u = length-each (numbered_line_bytes u) (line_size u) (length-numbered u) p.neighbours

  front-size : (u : Version) → length (front u) ≡ 3
  front-size u = length-append (big_endian 2 (length (versioned_body u p))) (big_endian 1 (byte_of u))
      ∙ rw (length-big-endian 2 (length (versioned_body u p)), length-big-endian 1 (byte_of u))

  body-size : (u : Version) → length (versioned_body u p) ≡ 1 + length (middle_bytes p) + line_size u * many
  body-size u =
      ap length (body-parts u p) ∙ length-append (big_endian 1 (byte_of u)) (middle_bytes p ++ lines u)
      ∙ rw (length-big-endian 1 (byte_of u), length-append (middle_bytes p) (lines u), lines-size u) (omega arith)

  start_is : lines_start v many (versioned_bytes v p) ≡ 3 + length (middle_bytes p)
  start_is =
      let size : length (versioned_bytes v p) ≡ 3 + (length (middle_bytes p) + line_size v * many) =
      ap length (whole v) ∙ length-append (front v) (middle_bytes p ++ lines v)
      ∙ rw (front-size v, length-append (middle_bytes p) (lines v), lines-size v) in
      omega arith

  front-dropped : drop 3 (versioned_bytes v p) ≡ middle_bytes p ++ lines v
  front-dropped = ap (drop 3) (whole v) ∙ drop_at (front v) (middle_bytes p ++ lines v) 3 (front-size v)

  start-dropped : drop (3 + length (middle_bytes p)) (versioned_bytes v p) ≡ lines v
  start-dropped =
      let size : length (front v ++ middle_bytes p) ≡ 3 + length (middle_bytes p) =
      length-append (front v) (middle_bytes p) ∙ rw (front-size v) in
      ap (drop (3 + length (middle_bytes p))) (whole v ∙ sym (append_assoc (front v) (middle_bytes p) (lines v)))
      ∙ drop_at (front v ++ middle_bytes p) (lines v) _ size

  pub moved-versioned : Zero p.neighbours → moved_bytes v w many (versioned_bytes v p) ≡ versioned_bytes w p
  unfolding moved_bytes
  moved-versioned z =
      let middle : take (3 + length (middle_bytes p) - 3) (middle_bytes p ++ lines v) ≡ middle_bytes p =
      take_at (middle_bytes p) (lines v) (3 + length (middle_bytes p) - 3) (omega arith) in
      let size : 3 + length (middle_bytes p) + line_size w * many - 2 ≡ length (versioned_body w p) = omega (arith, body-size w) in
      rw (start_is, front-dropped, start-dropped, middle, size, lines-moved v w p.neighbours z, byte-written w)
      (append_assoc (front w) (middle_bytes p) (lines w) ∙ sym (whole w))

-- ---- the moves

pub moved-taken : {C : Type 0} (s : List ℕ) (v w : Version) (t : List ℕ) (m : ℕ) → moved v w s ≡ got t m
    → ((p : SceneParts) → parts_in v s ≡ got p m → keeps w p ≡ true → moved_bytes v w (length p.neighbours) s ≡ t → C) → C
unfolding moved
moved-taken s v w t m e next =
    then-got (parts_in v s) _ e λ p a read r.
    guard-got (keeps w p) 11 _ r λ k last.
    next p (rw (got_same last).1 at read) k (got_same last).0

-- a version 1 record has every number 0, and one side of a move is of version 1
zero-got : (g : Got Scene) (x : Numbered) (m : ℕ) → zero_numbered g ≡ got x m → x.numbers ≡ blank_words
zero-got (refused r) x m e = apart r x m e
zero-got (got c at) x m e = sym (ap (λ (y : Numbered). y.numbers) (got_same e).0)

one-blank : (s : List ℕ) (p : SceneParts) (m : ℕ) → parts_in One s ≡ got p m → (numbered_of p).numbers ≡ blank_words
one-blank s p m z =
    parts-taken s One p m z λ n b d e f read right few byte fits read-cart read-os few-os list-os read-ls few-ls list-ls end.
    zero-got (scene_in_version1 s) (numbered_of p) m (sym (version-1-same s n read right (rw (← right) at fits) byte)
    ∙ parts-read s One p m z)

first-numbers : (s t : List ℕ) {v w : Version} (m k : ℕ) → Way v w → (p : SceneParts) → parts_in v s ≡ got p m →
    parts_in w t ≡ got p k → (numbered_of p).numbers ≡ blank_words
first-numbers s t m k there p here other = one-blank s p m here
first-numbers s t m k back p here other = one-blank t p k other

module _ (s : List ℕ) (h : AllBytes s) where
  -- a record that is moved: both sides are the bytes of the same parts, and are read to them
  pub moved-parts : {C : Type 0} {v w : Version} → Way v w → (t : List ℕ) (m : ℕ) → moved v w s ≡ got t m
      → ((p : SceneParts) → Zero p.neighbours → parts_in v s ≡ got p m → parts_in w t ≡ got p (length t) →
      s ≡ versioned_bytes v p → t ≡ versioned_bytes w p → C) → C
  moved-parts {C} {v} {w} way t m e next =
      moved-taken s v w t m e λ p read k made.
      let ok = record-good s h v p m read in
      let z = zero-on-the-way way p ok k in
      let here : s ≡ versioned_bytes v p = record-is-bytes s h v p m read in
      let there-is : t ≡ versioned_bytes w p = sym made ∙ ap (moved_bytes v w (length p.neighbours)) here
      ∙ moved-versioned v w p z in
      next p z read (rw there-is (record-read w p (good-there v w p ok z))) here there-is

  pub moved_back : {v w : Version} → Way v w → (t : List ℕ) (m : ℕ) → moved v w s ≡ got t m → moved w v t ≡ got s (length t)
  unfolding moved
  moved_back {v} {w} way t m e =
      moved-parts way t m e λ p z read again here there-is.
      rw (again, zero-keeps v p z) (ap (λ (r : List ℕ). got r (length t))
      (ap (moved_bytes w v (length p.neighbours)) there-is ∙ moved-versioned w v p z ∙ sym here))

  -- "There and back gives the same bytes from either side."
  pub there_and_back : (t : List ℕ) (m : ℕ) → moved One Two s ≡ got t m → moved Two One t ≡ got s (length t)
  there_and_back = moved_back there

  pub back-and-there : (t : List ℕ) (m : ℕ) → moved Two One s ≡ got t m → moved One Two t ≡ got s (length t)
  back-and-there = moved_back back

  -- the moved record is read to the same scene, every number being 0
  pub moved-reads : {v w : Version} → Way v w → (t : List ℕ) (m : ℕ) → moved v w s ≡ got t m → (x : Numbered) →
      scene_in s ≡ got x m → (scene_in t ≡ got x (length t)) × (x.numbers ≡ blank_words)
  moved-reads {v} {w} way t m e x read-x =
      moved-parts way t m e λ p z read again here there-is.
      let same : numbered_of p ≡ x = (got_same (sym (parts-read s v p m read) ∙ read-x)).0 in
      let blank : (numbered_of p).numbers ≡ blank_words = first-numbers s t m (length t) way p read again in (
        parts-read t w p (length t) again ∙ ap (λ (y : Numbered). got y (length t)) same,
        sym (ap (λ (y : Numbered). y.numbers) same) ∙ blank,
      )

-- ---- a refusal leaves the buffer as it was

laid-untouched : (g : Got (List ℕ)) (buffer : List ℕ) (r : ℕ) → (laid_move g buffer).told ≡ fault r →
    (laid_move g buffer).contents ≡ buffer
unfolding laid_scene
laid-untouched (refused n) buffer r e = refl
laid-untouched (got t at) buffer r e =
    unless-case (λ (w : Written). w.told ≡ fault r → w.contents ≡ buffer) (λ k. written (fault k) 0 buffer)
    (must (leb (length t) (length buffer)) 10) (λ h e. absurd (no-fault r e)) (λ k h e. refl) e

pub moved-untouched : (v w : Version) (s buffer : List ℕ) (r : ℕ) → (moved_into v w s buffer).told ≡ fault r →
    (moved_into v w s buffer).contents ≡ buffer
unfolding moved_into
moved-untouched v w s buffer r e = laid-untouched (moved v w s) buffer r e
