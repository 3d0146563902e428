-- Every refusal of a record has a number from 1 to 10, or 14, and the answer reader takes the program's reply to it.
-- Assumes nothing.
use Prim.Native.Nat.{ℕ, zero, suc, ◌+◌, ◌-◌, ◌≤◌}
use native.Mathlib.Omega.{arith}
use mathlib.Core.Path.{◌≡◌, refl, sym, ◌∙◌}
use mathlib.Core.Bool.{Bool, true, false, not, ◌&&◌, ◌||◌}
use mathlib.Core.Logic.{◌⊎◌, inl, inr, ⊎_elim}
use mathlib.Core.List.{List}
use lib.Dec.{leb, eqb}
use lib.ListN.{length}
use lib.Ieee.{Float, binary32, of_bits}
use borrow.Author.Tests.{leb-true, eqb-true, le-leb}
use Rattle.arithmetic.specs.Binary32.{finite}
use Rattle.arithmetic.proofs.Choice.{and_left, and_right, or_cases}
use Rattle.admission.specs.Faults.{fine, within, inside}
use Rattle.admission.specs.Refusals.{number_of, refusal_of}
use Rattle.admission.specs.Heads.{is_kind, room_for, is_empty_open}
use Rattle.admission.proofs.FaultLaws.{no-fault}
use Rattle.lines.specs.LineFaults.{band_low, band_high}
use Rattle.common.specs.Vectors.{reach, length_squared_of}
use Rattle.edges.specs.Edges.{OuterVertex}
use Rattle.obstacles.specs.Doubled.{follows, none_before, on_vertex, closes}
use Rattle.dodgy_2d.specs.declared.Scene.{Scene}
use Rattle.dodgy_2d.specs.Scenes.{scene_fault}
use Rattle.dodgy_2d.specs.Outcomes.{SceneOutcome, outcome, refused_scene, scene_outcome}
use Rattle.dodgy_2d.proofs.SceneTold.{Told, answered, at-fault, by-edge, by-edge-at-rest, scene-told}
use Rattle.fields.specs.Got.{Got, refused, got, then, guard, word, many}
use Rattle.scene_records.specs.Steps.{count, number, vector, ended}
use Rattle.scene_records.specs.declared.Version.{Version}
use Rattle.scene_records.specs.declared.Version.TheVariants.{One, Two}
use Rattle.scene_records.specs.Parts.{cart, head, vertex, vertices_at, outline, obstacle, obstacles, neighbour}
use Rattle.scene_records.specs.Records.{announced}
use Rattle.scene_records.specs.Versions.{longest_either, longest_of, is_either, either_version, line_number, numbered_line, numbered_lines, fields_with, behind_version, Numbered as NumberedSceneRead, scene_in}
use Rattle.scene_records.proofs.ReadAdmitted.{read-admitted}
use Rattle.answer_records.specs.Replies as said
use Rattle.answer_records.specs.Replies.{is_refusal_code, answer_in}
use Rattle.answer_records.proofs.RoundTrips.{refusal-read-back}
use Rattle.records.specs.Answered as one
use Rattle.records.proofs.NumberedBack.{few-back, doubled-back}

-- a number from 1 to 10, or 14, said by a test: so of a number that is written out it is plain
abbrev pub Numbered : ℕ → Type 0
Numbered r = ((leb 1 r && leb r 10) || eqb r 14) ≡ true

numbered-cases : (r : ℕ) → Numbered r → ((1 ≤ r) × (r ≤ 10)) ⊎ (r ≡ 14)
numbered-cases r h =
    ⊎_elim
    (λ d. inl (leb-true 1 r (and_left (leb 1 r) (leb r 10) d), leb-true r 10 (and_right (leb 1 r) (leb r 10) d)))
    (λ d. inr (eqb-true r 14 d))
    (or_cases (leb 1 r && leb r 10) (eqb r 14) h)

-- the refusal of each has that number
pub numbered-back : (r : ℕ) → Numbered r → number_of (refusal_of r) ≡ r
numbered-back r h = ⊎_elim (λ d. few-back r d.0 d.1) (λ e. rw e doubled-back) (numbered-cases r h)

-- the answer reader takes the code of each
numbered-taken : (r : ℕ) → ((1 ≤ r) × (r ≤ 10)) ⊎ (r ≡ 14) → is_refusal_code (128 + r) ≡ true
numbered-taken r (inl h) = rw (le-leb 129 (128 + r) (omega (arith, h.0)), le-leb (128 + r) 138 (omega (arith, h.1)))
numbered-taken r (inr e) = rw e

-- ---- the reader's

-- a reading that is refused with such a number alone
pub data NumberedReading {A : Type 0} : Got A → Type 0 where
  told : {r : ℕ} → Numbered r → NumberedReading (refused r)
  read : {a : A} {m : ℕ} → NumberedReading (got a m)

then-numbered : {A B : Type 0} (g : Got A) (k : A → ℕ → Got B) → NumberedReading g →
    ((a : A) (m : ℕ) → NumberedReading (k a m)) → NumberedReading (then g k)
then-numbered (refused r) k (told h) f = told h
then-numbered (got a m) k read f = f a m

guard-numbered : {A : Type 0} (t : Bool) (r : ℕ) (g : Got A) → Numbered r → NumberedReading g → NumberedReading (guard t r g)
guard-numbered true r g h f = f
guard-numbered false r g h f = told h

many-numbered : {A S : Type 0} (step : S → ℕ → Got A) (on : S → A → S) →
    ((state : S) (at : ℕ) → NumberedReading (step state at)) → (n : ℕ) (state : S) (at : ℕ) →
    NumberedReading (many step on n state at)
unfolding many
many-numbered step on f zero state at = read
many-numbered step on f (suc n) state at =
    then-numbered (step state at) _ (f state at) λ a m. then-numbered (many step on n (on state a) m) _
    (many-numbered step on f n (on state a) m) λ rest k. read

module _ (s : List ℕ) where
  word-numbered : (w at : ℕ) → NumberedReading (word w s at)
  unfolding word
  word-numbered w at = guard-numbered (leb (at + w) (length s)) 2 _ refl read

  byte-numbered : {A : Type 0} (at : ℕ) (k : ℕ → ℕ → Got A) → ((x m : ℕ) → NumberedReading (k x m)) →
      NumberedReading (then (word 1 s at) k)
  byte-numbered at k f = then-numbered (word 1 s at) k (word-numbered 1 at) f

  number-numbered : (passes : Float → Bool) (at : ℕ) → NumberedReading (number passes s at)
  unfolding number
  number-numbered passes at = then-numbered (word 4 s at) _ (word-numbered 4 at) λ b a.
      guard-numbered (passes (of_bits binary32 b)) 6 _ refl read

  vector-numbered : (passes : Float → Bool) (at : ℕ) → NumberedReading (vector passes s at)
  unfolding vector
  vector-numbered passes at = then-numbered (number passes s at) _ (number-numbered passes at) λ x a.
      then-numbered (number passes s a) _ (number-numbered passes a) λ y b. read

  vertex-numbered : (before : OuterVertex) (at : ℕ) → NumberedReading (vertex s before at)
  unfolding vertex
  vertex-numbered before at = then-numbered (vector (within reach) s at) _ (vector-numbered (within reach) at) λ v a.
      guard-numbered (follows before v) 14 _ refl read

  count-numbered : (most at : ℕ) → NumberedReading (count most s at)
  unfolding count
  count-numbered most at = byte-numbered at _ λ n a. guard-numbered (leb n most) 4 _ refl read

  head-numbered : (total at : ℕ) → NumberedReading (head s total at)
  unfolding head
  head-numbered total at =
      byte-numbered at _ λ k a. guard-numbered (is_kind k) 3 _ refl (
      byte-numbered a _ λ c b. guard-numbered (room_for total c) 4 _ refl (guard-numbered (not (is_empty_open k c)) 5 _ refl read))

  obstacle-numbered : (total at : ℕ) → NumberedReading (obstacle s total at)
  unfolding obstacle outline vertices_at
  obstacle-numbered total at =
      then-numbered (head s total at) _ (head-numbered total at) λ h a.
      then-numbered (outline s h a) _
      (then-numbered (vertices_at s none_before h.count a) _ (many-numbered (vertex s) on_vertex vertex-numbered
      h.count none_before a) λ vs b. guard-numbered (closes h.kind vs) 14 _ refl read)
      λ vs b. read

  neighbour-numbered : (at : ℕ) → NumberedReading (neighbour s at)
  unfolding neighbour
  neighbour-numbered at =
      then-numbered _ _ (vector-numbered _ at) λ p a.
      then-numbered _ _ (vector-numbered finite a) λ d b.
      guard-numbered (inside band_low band_high (length_squared_of d)) 7 _ refl read

  obstacles-numbered : (n at : ℕ) → NumberedReading (obstacles s n 0 at)
  unfolding obstacles
  obstacles-numbered n at = many-numbered _ _ obstacle-numbered n 0 at

  line-number-numbered : (v : Version) (at : ℕ) → NumberedReading (line_number v s at)
  unfolding line_number
  line-number-numbered One at = read
  line-number-numbered Two at = word-numbered 4 at

  line-numbered : (v : Version) (at : ℕ) → NumberedReading (numbered_line v s at)
  unfolding numbered_line
  line-numbered v at = then-numbered (line_number v s at) _ (line-number-numbered v at) λ n a.
      then-numbered (neighbour s a) _ (neighbour-numbered a) λ l b. read

  lines-numbered : (v : Version) (n at : ℕ) → NumberedReading (numbered_lines v s n at)
  unfolding numbered_lines
  lines-numbered v n at = many-numbered _ _ (λ u. line-numbered v) n tt at

  cart-numbered : (at : ℕ) → NumberedReading (cart s at)
  unfolding cart
  cart-numbered at =
      then-numbered _ _ (vector-numbered _ at) λ p a.
      then-numbered _ _ (vector-numbered _ a) λ v b.
      then-numbered _ _ (number-numbered _ b) λ m c.
      then-numbered _ _ (number-numbered _ c) λ h d.
      then-numbered _ _ (vector-numbered _ d) λ w e.
      then-numbered _ _ (number-numbered _ e) λ l f. read

  pub scene-numbered : NumberedReading (scene_in s)
  unfolding scene_in announced either_version behind_version fields_with ended
  scene-numbered =
      then-numbered (announced longest_either s) _
      (then-numbered (word 2 s 0) _ (word-numbered 2 0) λ n a. guard-numbered (leb n longest_either) 4 _ refl
      (guard-numbered (eqb n (length s - 2)) 2 _ refl read))
      λ u a.
      then-numbered (either_version s a) _ (byte-numbered a _ λ v b. guard-numbered (is_either v) 1 _ refl read) λ v b.
      guard-numbered (leb (length s - 2) (longest_of v)) 4 _ refl (
      then-numbered (cart s b) _ (cart-numbered b) λ c d.
      then-numbered (count 16 s d) _ (count-numbered 16 d) λ n e.
      then-numbered (obstacles s n 0 e) _ (obstacles-numbered n e) λ os f.
      then-numbered (count 64 s f) _ (count-numbered 64 f) λ m g.
      then-numbered (numbered_lines v s m g) _ (lines-numbered v m g) λ ls h.
      then-numbered (ended s h) _ (guard-numbered (eqb h (length s)) 2 _ refl read) λ w i. read)

-- ---- a record's

pub refused-numbered : {r : ℕ} → NumberedReading {A = NumberedSceneRead} (refused r) → Numbered r
refused-numbered (told h) = h

same_number : (m r : ℕ) → one.refusal m ≡ one.refusal r → m ≡ r
same_number m r e = cc

solve-numbered : (c : Scene) → scene_fault c ≡ fine → (o : SceneOutcome) → Told c o → (r : ℕ) →
    one.of_outcome o ≡ one.refusal r → Numbered r
solve-numbered c f (outcome code p l n) (answered h) r e = absurd (let z : ◌≡◌ {A = ℕ} 0 1 = cc in omega arith)
solve-numbered c f (refused_scene m) (at-fault g) r e = absurd (no-fault m (sym f ∙ g))
solve-numbered c f (refused_scene m) (by-edge nine g h) r e = rw (← same_number m r e, nine)
solve-numbered c f (refused_scene m) (by-edge-at-rest nine g h) r e = rw (← same_number m r e, nine)

reading-numbered : (s : List ℕ) (g : Got NumberedSceneRead) → scene_in s ≡ g → NumberedReading g → (r : ℕ) →
    one.of_reading g ≡ one.refusal r → Numbered r
reading-numbered s (refused m) z h r e = rw (← same_number m r e) (refused-numbered h)
reading-numbered s (got x m) z h r e =
    solve-numbered x.scene (read-admitted s x m z) (scene_outcome x.scene) (scene-told x.scene) r e

-- A record's refusal has a number from 1 to 10, or 14 ..
pub refusal-numbered : (s : List ℕ) (r : ℕ) → one.answered s ≡ one.refusal r → ((1 ≤ r) × (r ≤ 10)) ⊎ (r ≡ 14)
unfolding one.answered
refusal-numbered s r e = numbered-cases r (reading-numbered s (scene_in s) refl (scene-numbered s) r e)

-- .. and the answer reader takes the reply.
pub refusal-taken : (s : List ℕ) (r : ℕ) → one.answered s ≡ one.refusal r → answer_in (one.reply_to s) ≡ said.refusal r
unfolding one.reply_to
refusal-taken s r e = rw e (refusal-read-back r (numbered-taken r (refusal-numbered s r e)))
