-- What the reader's promise says of a move, and what a move tells. Assumes nothing.
use Prim.Native.Nat.{ℕ, ◌+◌, ◌*◌, ◌≤◌}
use native.Mathlib.Omega.{arith}
use mathlib.Core.Path.{◌≡◌, refl, sym, ap, ◌∙◌}
use mathlib.Core.Bool.{true}
use mathlib.Core.List.{List, ◌++◌, map}
use lib.Dec.{leb}
use lib.ListN.{length, take, drop, length-map}
use lib.Seq.{sets, sets-eq, length-sets}
use native.Mathlib.Nat.{zero-add}
use borrow.Author.Tests.{le-leb}
use Rattle.std.specs.Prelude.{Result, Ok, Err}
use Rattle.admission.specs.declared.refusal.Refusal.{Refusal}
use Rattle.admission.specs.Refusals.{refusal_of}
use Rattle.scene_records.proofs.Chains.{guard-refused}
use Rattle.admission.specs.Faults.{fine, fault, must}
use Rattle.fields.specs.Got.{Got, refused, got}
use Rattle.scene_records.specs.declared.Version.{Version}
use Rattle.scene_records.specs.declared.NumberedScene.{NumberedScene}
use Rattle.scene_records.specs.Versions.{number_of, SceneParts, parts_in, Numbered, scene_made, blank_words, scene_in_version, numbered_as}
use Rattle.scene_records.proofs.SceneParts.{front-back}
use Rattle.scene_records.proofs.VersionLaws.{refused-parts, made-parts, numbered_of}
use Rattle.scene_writer.specs.Writing.{written, laid_scene}
use Rattle.scene_moves.specs.Moves.{line_size, moved_length, moved_bytes, keeps, moved, moved_into}
use Rattle.scene_moves.proofs.PutMoves.{moved-long}
use Rattle.scene_moves.proofs.Places.{lines-last}
use Rattle.scene_moves.proofs.VersionParts.{parts-taken}

-- ---- what was read

-- a record of the version that was read: its parts, and what is known of them
pub record Read (v : Version) (s : List ℕ) (r : NumberedScene) : Type 0 where
  pub parts : SceneParts
  pub end : ℕ
  pub read : parts_in v s ≡ got parts end
  pub many : r.scene.neighbours ≡ length parts.neighbours
  pub few : r.scene.neighbours ≤ 64
  pub numbers : take r.scene.neighbours r.numbers ≡ map number_of parts.neighbours
  pub long : length r.numbers ≡ 64
  pub room : 41 + line_size v * r.scene.neighbours ≤ length s
  pub short : length s ≤ 2889

-- the numbers of at most 64 lines stand in front of zeros
numbers-front : (ns : List ℕ) → length ns ≤ 64 → take (length ns) (sets blank_words 0 ns) ≡ ns
unfolding blank_words
numbers-front ns h = front-back blank_words ns h

blank-long : (ns : List ℕ) → length (sets blank_words 0 ns) ≡ 64
unfolding blank_words
blank-long ns = length-sets blank_words 0 ns

module _ (v : Version) (s : List ℕ) (r : NumberedScene) (e : Ok r ≡ numbered_as (scene_in_version v s)) where
  read-got : (x : Numbered) (m : ℕ) → scene_in_version v s ≡ got x m → Read v s r
  read-got x m z =
      made-parts scene_made v s x m z λ p read same.
      parts-taken s v p m read λ n b d i f word-n right few byte fits read-cart read-os few-os list-os read-ls few-ls
      list-ls stop.
      let whole : Ok r ≡ numbered_as (got (numbered_of p) m) = e ∙ ap numbered_as (z ∙ ap (λ (y : Numbered). got y m) same) in
      let scene : r ≡ record { scene = (numbered_of p).scene; numbers = (numbered_of p).numbers } = cc in
      let many : r.scene.neighbours ≡ length p.neighbours = ap (λ (y : NumberedScene). y.scene.neighbours) scene in
      let stored : r.numbers ≡ sets blank_words 0 (map number_of p.neighbours) = ap (λ (y : NumberedScene). y.numbers) scene in
      let size : length (map number_of p.neighbours) ≡ length p.neighbours = length-map p.neighbours number_of in
      record {
        parts = p;
        end = m;
        read = read;
        many = many;
        few = rw many few-ls;
        numbers = rw (many, stored) (rw size at (numbers-front (map number_of p.neighbours) (rw size few-ls)));
        long = ap length stored ∙ blank-long (map number_of p.neighbours);
        room = rw many (lines-last s v p m read);
        short = omega arith;
      }

  pub reads : Read v s r
  reads = go (scene_in_version v s) refl
    where
      go : (g : Got Numbered) → scene_in_version v s ≡ g → Read v s r
      go (refused n) z = let other : ◌≡◌ {A = Result NumberedScene Refusal} (Ok r) (Err (refusal_of n)) = e ∙ ap numbered_as z in absurd (cc)
      go (got x m) z = read-got x m z

-- the record's own refusal
pub told-fault : (v w : Version) (s buffer : List ℕ) (n : ℕ) → scene_in_version v s ≡ refused n →
    written (fault n) 0 buffer ≡ moved_into v w s buffer
unfolding moved_into moved
told-fault v w s buffer n z = rw (refused-parts scene_made v s n z) refl

-- ---- what is told of one that was read

module _ (v w : Version) (s buffer : List ℕ) (r : NumberedScene) (known : Read v s r) where
  abbrev count : ℕ
  count = r.scene.neighbours

  abbrev bytes : List ℕ
  bytes = moved_bytes v w count s

  -- a number that would be lost
  pub told-lost : (m : ℕ) → fault m ≡ must (keeps w known.parts) 11 → written (fault m) 0 buffer ≡ moved_into v w s buffer
  unfolding moved_into moved
  told-lost m f = rw (known.read, guard-refused (keeps w known.parts) 11 (got (moved_bytes v w (length known.parts.neighbours) s) known.end) m f) refl

  module _ (kept : keeps w known.parts ≡ true) (n : ℕ) (sized : n ≡ moved_length v w count s) where
    goes : moved_into v w s buffer ≡ laid_scene fine bytes buffer
    unfolding moved_into moved
    goes = rw (known.read, kept, known.many)

    size : length bytes ≡ n
    size = moved-long v w count s known.room ∙ sym sized

    pub told-short : (m : ℕ) → fault m ≡ must (leb n (length buffer)) 10 → written (fault m) 0 buffer ≡ moved_into v w s buffer
    unfolding laid_scene
    told-short m f = rw (goes, size, ← f) refl

    pub told_moved : n ≤ length buffer → (l : List ℕ) → l ≡ sets buffer 0 bytes → written fine n l ≡ moved_into v w s buffer
    unfolding laid_scene
    told_moved h l f =
        let fits : length bytes ≤ length buffer = rw size h in
        let laid : l ≡ bytes ++ drop (length bytes) buffer = f ∙ rw zero-add at (sets-eq bytes buffer 0 (omega arith)) in
        rw (goes, le-leb (length bytes) (length buffer) fits, laid, size)
