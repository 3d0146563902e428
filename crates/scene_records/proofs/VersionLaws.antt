-- Laws of the two versions under 01's reader and the reader of both. Assumes nothing.
use Prim.Native.Nat.{ℕ, zero, suc, ◌-◌, ◌≤◌, ◌<◌}
use native.Mathlib.Omega.{arith}
use mathlib.Core.Path.{◌≡◌, refl, sym, ap, ◌∙◌}
use mathlib.Core.Bool.{Bool, true, false}
use mathlib.Core.Logic.{⊎_elim}
use mathlib.Core.List.{List, [], ◌∷◌, map}
use lib.Dec.{eqb, leb}
use lib.ListN.{length, replicate, set}
use lib.Seq.{sets}
use borrow.Author.Tests.{eqb-true, eq-eqb, le-leb, lt-leb}
use Rattle.arithmetic.proofs.Choice.{or_cases}
use Rattle.lines.specs.declared.Line.{Line}
use Rattle.dodgy_2d.specs.declared.Scene.{Scene}
use Rattle.fields.specs.Got.{Got, refused, got, then, guard, word, many}
use Rattle.scene_records.specs.declared.Cart.{Cart}
use Rattle.std.specs.Prelude.{Result, Ok, Err}
use Rattle.admission.specs.declared.refusal.Refusal.{Refusal}
use Rattle.scene_records.specs.declared.NumberedScene.{NumberedScene}
use Rattle.scene_records.specs.declared.Version.{Version}
use Rattle.scene_records.specs.declared.Version.TheVariants.{One, Two}
use Rattle.scene_records.specs.Steps.{version, count, ended}
use Rattle.scene_records.specs.Parts.{cart, Obstacle, obstacles, neighbour, neighbours}
use Rattle.scene_records.specs.Records.{fields_in, announced, scene_in_version1, longest_rest, read_as}
use Rattle.scene_records.specs.Versions.{byte_of, longest_either, longest_of, is_either, version_of, line_number, NumberedLine, numbered, numbered_line, numbered_lines, either_version, fields_with, behind_version, record_with, line_of, number_of, Numbered, blank_words, scene_made, scene_in, scene_in_version, SceneParts, parts_made, parts_in, numbered_as}
use Rattle.fields.proofs.ChainLaws.{apart, then-got, guard-got, got_same}
use Rattle.scene_records.proofs.Taken.{numbered-taken, record-taken}

-- ---- "A version 1 reader answers 1 to a version 2 record, or 4 if the length is over its own limit, and shows nothing of it."

module _ (s : List ℕ) (n : ℕ) (read : word 2 s 0 ≡ got n 2) (right : n ≡ length s - 2) where
  pub version-2-refused : word 1 s 2 ≡ got 2 3 → n ≤ longest_rest → scene_in_version1 s ≡ refused 1
  unfolding scene_in_version1 announced fields_in version
  version-2-refused e h = rw (read, le-leb n longest_rest h, eq-eqb n _ right, e)

  pub long-refused : longest_rest < n → scene_in_version1 s ≡ refused 4
  unfolding scene_in_version1 announced
  long-refused h = rw (read, lt-leb n longest_rest h)

-- ---- what 01's reader reads, with every number 0

abbrev pub zero_numbered : Got Scene → Got Numbered
zero_numbered (refused r) = refused r
zero_numbered (got c at) = got (record { scene = c; numbers = blank_words }) at

abbrev zero_lines : Got (List Line) → Got (List NumberedLine)
zero_lines (refused r) = refused r
zero_lines (got ls at) = got (map (numbered 0) ls) at

line-then : (g : Got Line) (f : ℕ → Got (List Line)) (h : ℕ → Got (List NumberedLine)) → ((b : ℕ) → h b ≡ zero_lines (f b))
    → then (then g λ l b. got (numbered 0 l) b) (λ a m. then (h m) λ rest k. got (a ∷ rest) k)
    ≡ zero_lines (then g λ l m. then (f m) λ rest k. got (l ∷ rest) k)
line-then (refused r) f h e = refl
line-then (got l b) f h e = rw (e b) (go (f b))
  where
    go : (g : Got (List Line)) → then (zero_lines g) (λ rest k. got (numbered 0 l ∷ rest) k)
        ≡ zero_lines (then g λ rest k. got (l ∷ rest) k)
    go (refused r) = refl
    go (got ls at) = refl

lines-zero : (s : List ℕ) (n at : ℕ) → numbered_lines One s n at ≡ zero_lines (neighbours s n at)
unfolding numbered_lines numbered_line line_number neighbours many
lines-zero s zero at = refl
lines-zero s (suc n) at = line-then (neighbour s at) (neighbours s n) (numbered_lines One s n) (lines-zero s n)

lines_same : (ls : List Line) → map line_of (map (numbered 0) ls) ≡ ls
lines_same [] = refl
lines_same (l ∷ ls) = ap (λ (r : List Line). l ∷ r) (lines_same ls)

numbers-zero : (ls : List Line) → map number_of (map (numbered 0) ls) ≡ replicate (length ls) 0
numbers-zero [] = refl
numbers-zero (l ∷ ls) = ap (λ (r : List ℕ). 0 ∷ r) (numbers-zero ls)

set-zero : (n i : ℕ) → set {A = ℕ} (replicate n 0) i 0 ≡ replicate n 0
set-zero zero i = refl
set-zero (suc n) zero = refl
set-zero (suc n) (suc i) = ap (λ (r : List ℕ). 0 ∷ r) (set-zero n i)

zeros-stay : (n i k : ℕ) → sets {A = ℕ} (replicate n 0) i (replicate k 0) ≡ replicate n 0
zeros-stay n i zero = refl
zeros-stay n i (suc k) = ap (λ (r : List ℕ). sets r (suc i) (replicate k 0)) (set-zero n i) ∙ zeros-stay n (suc i) k

then-zero : {A : Type 0} (g : Got A) (k : A → ℕ → Got Scene) (h : A → ℕ → Got Numbered) →
    ((a : A) (m : ℕ) → zero_numbered (k a m) ≡ h a m) → zero_numbered (then g k) ≡ then g h
then-zero (refused r) k h e = refl
then-zero (got a m) k h e = e a m

lines_then : (g : Got (List Line)) (k : List Line → ℕ → Got Scene) (h : List NumberedLine → ℕ → Got Numbered) →
    ((ls : List Line) (m : ℕ) → zero_numbered (k ls m) ≡ h (map (numbered 0) ls) m)
    → zero_numbered (then g k) ≡ then (zero_lines g) h
lines_then (refused r) k h e = refl
lines_then (got ls m) k h e = e ls m

pub fields-zero : (s : List ℕ) (at : ℕ) → zero_numbered (fields_in s at) ≡ then (version 1 s at) λ u a. fields_with scene_made One s a
unfolding fields_in fields_with blank_words
fields-zero s at =
    then-zero (version 1 s at) _ _ λ u a.
    then-zero (cart s a) _ _ λ c b.
    then-zero (count 16 s b) _ _ λ n d.
    then-zero (obstacles s n 0 d) _ _ λ os e.
    then-zero (count 64 s e) _ _ λ m f.
    rw (lines-zero s m f) (lines_then (neighbours s m f) _ _ λ ls g.
    then-zero (ended s g) _ _ λ w h.
    rw (lines_same ls, numbers-zero ls, zeros-stay 64 0 (length ls)))

record-zero : (s : List ℕ) → zero_numbered (scene_in_version1 s) ≡ then (announced longest_rest s) λ u a.
    then (version 1 s a) λ w b. fields_with scene_made One s b
unfolding scene_in_version1
record-zero s = then-zero (announced longest_rest s) _ _ λ u a. fields-zero s a

number_same : {A : Type 0} (n r : ℕ) → ◌≡◌ {A = Got A} (refused n) (refused r) → n ≡ r
number_same n r e = cc

-- ---- what the code hands over of a version 1 record

abbrev shown_of : Result NumberedScene Refusal → Result Scene Refusal
shown_of (Ok r) = Ok r.scene
shown_of (Err e) = Err e

shown : (g : Got Scene) → shown_of (numbered_as (zero_numbered g)) ≡ read_as g
shown (refused r) = refl
shown (got c at) = refl

module _ (s : List ℕ) (a b : ℕ) where
  abbrev fields : Got Numbered
  fields = fields_with scene_made One s b

  behind-version : got (tt {0}) a ≡ announced longest_rest s → got (tt {0}) b ≡ version 1 s a →
      fields ≡ zero_numbered (scene_in_version1 s)
  behind-version read_length read-version =
      let behind : (u : Unit {0}) → ℕ → Got Numbered = λ u a. then (version 1 s a) λ w b. fields_with scene_made One s b in
      ap (λ (g : Got (Unit {0})). then g λ w b. fields_with scene_made One s b) read-version
      ∙ ap (λ (g : Got (Unit {0})). then g behind) read_length ∙ sym (record-zero s)

  pub version-1-given : (r : Result NumberedScene Refusal) → got (tt {0}) a ≡ announced longest_rest s →
      got (tt {0}) b ≡ version 1 s a → r ≡ numbered_as fields → shown_of r ≡ read_as (scene_in_version1 s)
  version-1-given r read_length read-version e =
      ap shown_of (e ∙ ap numbered_as (behind-version read_length read-version)) ∙ shown (scene_in_version1 s)

  zero-refused : (n : ℕ) (g : Got Scene) → zero_numbered g ≡ refused n → g ≡ refused n
  zero-refused n (refused r) e = ap refused (number_same r n e)
  zero-refused n (got c at) e = apart n (record { scene = c; numbers = blank_words }) at (sym e)

  pub version-1-refused : (n : ℕ) → got (tt {0}) a ≡ announced longest_rest s → got (tt {0}) b ≡ version 1 s a →
      fields ≡ refused n → scene_in_version1 s ≡ refused n
  version-1-refused n read_length read-version e =
      zero-refused n (scene_in_version1 s) (sym (behind-version read_length read-version) ∙ e)

-- ---- a version 1 record under the reader of both: read, or refused, as by 01's, and every number is 0

module _ (s : List ℕ) (n : ℕ) (read : word 2 s 0 ≡ got n 2) (right : n ≡ length s - 2) (few : n ≤ longest_rest)
    (one : word 1 s 2 ≡ got 1 3) where
  by-either : scene_in s ≡ fields_with scene_made One s 3
  unfolding scene_in announced either_version behind_version
  by-either =
      let most : n ≤ longest_either = omega arith in
      let rest : length s - 2 ≤ longest_rest = rw right at few in
      rw (read, le-leb n longest_either most, eq-eqb n _ right, one, le-leb _ longest_rest rest)

  by_first : (then (announced longest_rest s) λ u a. then (version 1 s a) λ w b. fields_with scene_made One s b)
      ≡ fields_with scene_made One s 3
  unfolding announced version
  by_first = rw (read, le-leb n longest_rest few, eq-eqb n _ right, one)

  pub version-1-same : scene_in s ≡ zero_numbered (scene_in_version1 s)
  version-1-same = by-either ∙ sym (record-zero s ∙ by_first)

-- ---- the reader of both and the reader of one version

byte-either : (v : Version) → is_either (byte_of v) ≡ true
byte-either One = refl
byte-either Two = refl

byte-version : (v : Version) → version_of (byte_of v) ≡ v
byte-version One = refl
byte-version Two = refl

either-byte : (b : ℕ) → is_either b ≡ true → b ≡ byte_of (version_of b)
either-byte b h =
    ⊎_elim (λ e. (let z : b ≡ 1 = eqb-true b 1 e in rw z refl)) (λ e. (let z : b ≡ 2 = eqb-true b 2 e in rw z refl))
    (or_cases (eqb b 1) (eqb b 2) h)

module _ (s : List ℕ) (x : Numbered) (m : ℕ) where
  pub version-read : (v : Version) → scene_in_version v s ≡ got x m → scene_in s ≡ got x m
  unfolding scene_in announced either_version behind_version
  version-read v e =
      record-taken s scene_made v x m e λ n read right few byte fits fields.
      rw (
        read,
        le-leb n longest_either few,
        eq-eqb n _ right,
        byte,
        byte-either v,
        byte-version v,
        le-leb _ (longest_of v) fits,
      ) fields

  pub either-taken : {C : Type 0} → scene_in s ≡ got x m → ((v : Version) → scene_in_version v s ≡ got x m → C) → C
  unfolding scene_in either_version record_with version
  either-taken e next =
      then-got (announced longest_either s) _ e λ u a p q.
      then-got (either_version s a) _ q λ v d read-v z.
      then-got (word 1 s a) _ read-v λ b f read-b k.
      guard-got (is_either b) 1 _ k λ one last.
      let which : version_of b ≡ v = (got_same last).0 in
      let byte : eqb b (byte_of v) ≡ true = rw which at (eq-eqb b (byte_of (version_of b)) (either-byte b one)) in
      next v (rw (p, read-b, byte, (got_same last).1) z)

-- ---- whatever is made of the fields, they are read alike

refused-alike : {A B C : Type 0} (r : ℕ) (g : Got A) (k : A → ℕ → Got B) (h : A → ℕ → Got C) →
    ((a : A) (m : ℕ) → k a m ≡ refused r → h a m ≡ refused r) → then g k ≡ refused r → then g h ≡ refused r
refused-alike r (refused n) k h f e = ap refused (number_same n r e)
refused-alike r (got a m) k h f e = f a m e

guard-alike : {B C : Type 0} (r : ℕ) (t : Bool) (n : ℕ) (g : Got B) (h : Got C) → (g ≡ refused r → h ≡ refused r) →
    guard t n g ≡ refused r → guard t n h ≡ refused r
guard-alike r true n g h f e = f e
guard-alike r false n g h f e = ap refused (number_same n r e)

module _ {A : Type 0} (make : Cart → ℕ → List Obstacle → ℕ → List NumberedLine → A) (v : Version) (s : List ℕ) where
  pub record-gives : (n b d e f m : ℕ) (x : Cart) (os : List Obstacle) (ls : List NumberedLine) → word 2 s 0 ≡ got n 2 →
      n ≡ length s - 2 → n ≤ longest_either → word 1 s 2 ≡ got (byte_of v) 3
      → length s - 2 ≤ longest_of v → cart s 3 ≡ got x b → word 1 s b ≡ got (length os) d → length os ≤ 16 →
      obstacles s (length os) 0 d ≡ got os e
      → word 1 s e ≡ got (length ls) f → length ls ≤ 64 → numbered_lines v s (length ls) f ≡ got ls m → m ≡ length s →
      record_with make v s ≡ got (make x (length os) os (length ls) ls) m
  unfolding record_with announced version behind_version fields_with count ended
  record-gives n b d e f m x os ls read right few byte fits read-cart read-os few-os list-os read-ls few-ls list-ls end =
      rw (
        read,
        le-leb n longest_either few,
        eq-eqb n _ right,
        byte,
        eq-eqb (byte_of v) (byte_of v) refl,
        le-leb _ (longest_of v) fits,
        read-cart,
        read-os,
        le-leb _ 16 few-os,
        list-os,
        read-ls,
        le-leb _ 64 few-ls,
        list-ls,
        eq-eqb m _ end,
      )

  abbrev pub made_of : SceneParts → A
  made_of p = make p.cart (length p.obstacles) p.obstacles (length p.neighbours) p.neighbours

  pub parts-made : (p : SceneParts) (m : ℕ) → parts_in v s ≡ got p m → record_with make v s ≡ got (made_of p) m
  parts-made p m z =
      record-taken s parts_made v p m z λ n read right few byte fits fields.
      numbered-taken s parts_made v 3 p m fields λ b d e f x os ls read-cart read-os few-os list-os read-ls few-ls
      list-ls end same.
      rw same (record-gives n b d e f m x os ls read right few byte fits read-cart read-os few-os list-os read-ls few-ls
      list-ls end)

  pub refused-parts : (r : ℕ) → record_with make v s ≡ refused r → parts_in v s ≡ refused r
  unfolding record_with behind_version fields_with
  refused-parts r e =
      refused-alike r (announced longest_either s) _ _ (λ u a. refused-alike r (version (byte_of v) s a) _ _ λ w b.
      guard-alike r (leb (length s - 2) (longest_of v)) 4 _ _ (refused-alike r (cart s b) _ _ λ x d.
      refused-alike r (count 16 s d) _ _ λ n f. refused-alike r (obstacles s n 0 f) _ _ λ os g.
      refused-alike r (count 64 s g) _ _ λ m h.
      refused-alike r (numbered_lines v s m h) _ _ λ ls i. refused-alike r (ended s i) _ _ λ o j last. apart r _ j (sym last))) e

-- the parts that a scene was made of
pub made-parts : {A C : Type 0} (make : Cart → ℕ → List Obstacle → ℕ → List NumberedLine →
    A) (v : Version) (s : List ℕ) (r : A) (m : ℕ) → record_with make v s ≡ got r m
    → ((p : SceneParts) → parts_in v s ≡ got p m → r ≡ made_of make v s p → C) → C
made-parts make v s r m z next =
    record-taken s make v r m z λ n read right few byte fits fields.
    numbered-taken s make v 3 r m fields λ b d e f x os ls read-cart read-os few-os list-os read-ls few-ls list-ls end same.
    next (parts_made x (length os) os (length ls) ls)
    (record-gives parts_made v s n b d e f m x os ls read right few byte fits read-cart read-os few-os list-os
    read-ls few-ls list-ls end) same

abbrev pub numbered_of : SceneParts → Numbered
numbered_of p = scene_made p.cart (length p.obstacles) p.obstacles (length p.neighbours) p.neighbours

pub parts-read : (s : List ℕ) (v : Version) (p : SceneParts) (m : ℕ) → parts_in v s ≡ got p m → scene_in s ≡ got (numbered_of p) m
parts-read s v p m e = version-read s (numbered_of p) m v (parts-made scene_made v s p m e)
