-- What a record that was read tells of its steps: each chain taken apart once, for all the laws of reading. Assumes nothing.
use Prim.Native.Nat.{ℕ, ◌-◌, ◌≤◌}
use mathlib.Core.Path.{◌≡◌, sym, ap, ◌∙◌}
use mathlib.Core.Bool.{Bool, true, not}
use mathlib.Core.List.{List}
use lib.Dec.{leb, eqb}
use lib.ListN.{length}
use lib.Ieee.{Float, binary32, of_bits}
use borrow.Author.Tests.{leb-true, eqb-true}
use Rattle.arithmetic.specs.Binary32.{0ᶠ, finite}
use Rattle.admission.specs.declared.Head.{Head}
use Rattle.admission.specs.Faults.{within, inside}
use Rattle.admission.specs.Heads.{is_kind, room_for, is_empty_open}
use Rattle.common.specs.declared.Vec2.{Vec2}
use Rattle.common.specs.Vectors.{reach, longest, length_squared_of}
use Rattle.lines.specs.declared.Line.{Line}
use Rattle.lines.specs.LineFaults.{line_reach, band_low, band_high}
use Rattle.dodgy_2d.specs.declared.Scene.{Scene}
use Rattle.edges.specs.Edges.{OuterVertex, shortest_horizon, longest_horizon}
use Rattle.obstacles.specs.Doubled.{follows, none_before, on_vertex, closes}
use Rattle.fields.specs.Got.{got, word}
use Rattle.fields.proofs.ChainLaws.{got_same, then-got, guard-got, many-length}
use Rattle.fields.proofs.Spans.{word_fits}
use Rattle.scene_records.specs.declared.Cart.{Cart}
use Rattle.scene_records.specs.Steps.{number, vector, version, count, ended}
use Rattle.scene_records.specs.Parts.{cart_of, cart, head, vertex, vertices_at, outline, Obstacle, obstacle, obstacles, neighbour, neighbours}
use Rattle.scene_records.specs.Records.{scene_of, fields_in, longest_rest, announced, scene_in_version1}
use Rattle.scene_records.specs.declared.Version.{Version}
use Rattle.scene_records.specs.Versions.{byte_of, longest_either, longest_of, NumberedLine, numbered_lines, fields_with, behind_version, record_with}

module _ {C : Type 0} (s : List ℕ) where
  pub number-taken : (passes : Float → Bool) (at : ℕ) (x : Float) (m : ℕ) → number passes s at ≡ got x m
      → ((b : ℕ) → word 4 s at ≡ got b m → of_bits binary32 b ≡ x → passes x ≡ true → C) → C
  unfolding number
  number-taken passes at x m e next =
      then-got (word 4 s at) _ e λ b a p r.
      guard-got (passes (of_bits binary32 b)) 6 _ r λ t q.
      next b (p ∙ ap (λ (k : ℕ). got b k) (got_same q).1) (got_same q).0 (rw (got_same q).0 at t)

  pub vector-taken : (passes : Float → Bool) (at : ℕ) (v : Vec2) (m : ℕ) → vector passes s at ≡ got v m
      → ((a : ℕ) → number passes s at ≡ got v.x a → number passes s a ≡ got v.y m → C) → C
  unfolding vector
  vector-taken passes at v m e next =
      then-got (number passes s at) _ e λ x a p r.
      then-got (number passes s a) _ r λ y b q t.
      next a (p ∙ ap (λ (w : Vec2). got w.x a) (got_same t).0) (q
      ∙ rw (got_same t).1 (ap (λ (w : Vec2). got w.y m) (got_same t).0))

  pub cart-taken : (at : ℕ) (x : Cart) (m : ℕ) → cart s at ≡ got x m
      → ((a b d e f : ℕ) (p v : Vec2) (g h : Float) (w : Vec2) (l : Float) → vector (within reach) s at ≡ got p a →
      vector (within reach) s a ≡ got v b
      → number (inside 0ᶠ longest) s b ≡ got g d → number (inside shortest_horizon longest_horizon) s d ≡ got h e
      → vector (within reach) s e ≡ got w f → number (inside 0ᶠ longest) s f ≡ got l m → cart_of p v g h w l ≡ x → C) → C
  unfolding cart
  cart-taken at x m z next =
      then-got (vector (within reach) s at) _ z λ p a read-p r.
      then-got (vector (within reach) s a) _ r λ v b read-v t.
      then-got (number (inside 0ᶠ longest) s b) _ t λ g d read-g u.
      then-got (number (inside shortest_horizon longest_horizon) s d) _ u λ h e read-h q.
      then-got (vector (within reach) s e) _ q λ w f read-w k.
      then-got (number (inside 0ᶠ longest) s f) _ k λ l j read-l last.
      next a b d e f p v g h w l read-p read-v read-g read-h read-w (read-l
      ∙ ap (λ (i : ℕ). got l i) (got_same last).1) (got_same last).0

  pub head-taken : (total at : ℕ) (h : Head) (m : ℕ) → head s total at ≡ got h m
      → ((a : ℕ) → word 1 s at ≡ got h.kind a → is_kind h.kind ≡ true → word 1 s a ≡ got h.count m →
      room_for total h.count ≡ true → not (is_empty_open h.kind h.count) ≡ true → C) → C
  unfolding head
  head-taken total at h m e next =
      then-got (word 1 s at) _ e λ k a read-k u.
      guard-got (is_kind k) 3 _ u λ known w.
      then-got (word 1 s a) _ w λ n b read-n x.
      guard-got (room_for total n) 4 _ x λ room y.
      guard-got (not (is_empty_open k n)) 5 _ y λ some z.
      let kind : k ≡ h.kind = ap (λ (f : Head). f.kind) (got_same z).0 in
      let size : n ≡ h.count = ap (λ (f : Head). f.count) (got_same z).0 in
      next a (rw kind at read-k) (rw kind at known) (rw (size, (got_same z).1) at read-n) (rw size at room)
      (rw (kind, size) at some)

  pub vertex-taken : (before : OuterVertex) (at : ℕ) (v : Vec2) (m : ℕ) → vertex s before at ≡ got v m →
      (vector (within reach) s at ≡ got v m → follows before v ≡ true → C) → C
  unfolding vertex
  vertex-taken before at v m e next =
      then-got (vector (within reach) s at) _ e λ w a p r.
      guard-got (follows before w) 14 _ r λ t q.
      next (p ∙ rw ((got_same q).0, (got_same q).1)) (rw (got_same q).0 at t)

  pub obstacle-taken : (total at : ℕ) (o : Obstacle) (m : ℕ) → obstacle s total at ≡ got o m
      → ((a b : ℕ) → word 1 s at ≡ got o.kind a → is_kind o.kind ≡ true → word 1 s a ≡ got (length o.vertices) b
      → room_for total (length o.vertices) ≡ true
      → not (is_empty_open o.kind (length o.vertices)) ≡ true → vertices_at s none_before (length o.vertices) b
      ≡ got o.vertices m
      → closes o.kind o.vertices ≡ true → C) → C
  unfolding obstacle outline vertices_at
  obstacle-taken total at o m e next =
      then-got (head s total at) _ e λ h b p r.
      then-got (outline s h b) _ r λ vs i q t.
      then-got (vertices_at s none_before h.count b) _ q λ ws j u w.
      guard-got (closes h.kind ws) 14 _ w λ pair last.
      head-taken total at h b p λ a read-k known read-n room some.
      let kind : h.kind ≡ o.kind = ap (λ (f : Obstacle). f.kind) (got_same t).0 in
      let own : ws ≡ o.vertices = (got_same last).0 ∙ ap (λ (f : Obstacle). f.vertices) (got_same t).0 in
      let place : j ≡ m = (got_same last).1 ∙ (got_same t).1 in
      let read : vertices_at s none_before h.count b ≡ got o.vertices m = u ∙ rw (own, place) in
      let size : h.count ≡ length o.vertices =
      sym (many-length (vertex s) on_vertex h.count none_before b o.vertices m read) in
      next a b (rw kind at read-k) (rw kind at known) (rw size at read-n) (rw size at room) (rw (kind, size) at some)
      (rw size at read) (rw (kind, own) at pair)

  pub line_taken : (at : ℕ) (l : Line) (m : ℕ) → neighbour s at ≡ got l m
      → ((a : ℕ) → vector (within line_reach) s at ≡ got l.point a → vector finite s a ≡ got l.direction m →
      inside band_low band_high (length_squared_of l.direction) ≡ true → C) → C
  unfolding neighbour
  line_taken at l m e next =
      then-got (vector (within line_reach) s at) _ e λ p a read-p r.
      then-got (vector finite s a) _ r λ d b read-d t.
      guard-got (inside band_low band_high (length_squared_of d)) 7 _ t λ band u.
      let direction : d ≡ l.direction = ap (λ (k : Line). k.direction) (got_same u).0 in
      next a (read-p ∙ ap (λ (k : Line). got k.point a) (got_same u).0) (read-d
      ∙ rw (got_same u).1 (ap (λ (k : Vec2). got k m) direction)) (rw direction at band)

  pub count-taken : (most at n m : ℕ) → count most s at ≡ got n m → (word 1 s at ≡ got n m → n ≤ most → C) → C
  unfolding count
  count-taken most at n m e next =
      then-got (word 1 s at) _ e λ k a p r.
      guard-got (leb k most) 4 _ r λ t q.
      let same : k ≡ n = (got_same q).0 in
      next (p ∙ rw (same, (got_same q).1)) (leb-true n most (rw same at t))

  -- the fields, each where the one before it ended
  pub fields-taken : (at : ℕ) (c : Scene) (m : ℕ) → fields_in s at ≡ got c m
      → ((a b d e f : ℕ) (x : Cart) (os : List Obstacle) (ls : List Line) → word 1 s at ≡ got 1 a → cart s a ≡ got x b
      → word 1 s b ≡ got (length os) d → length os ≤ 16 → obstacles s (length os) 0 d ≡ got os e
      → word 1 s e ≡ got (length ls) f → length ls ≤ 64 → neighbours s (length ls) f ≡ got ls m → m ≡ length s
      → c ≡ scene_of x (length os) os (length ls) ls → C) → C
  unfolding fields_in version ended obstacles neighbours
  fields-taken at c m z next =
      then-got (version 1 s at) _ z λ u a read-version r.
      then-got (word 1 s at) _ read-version λ v i read-v one.
      guard-got (eqb v 1) 1 _ one λ is_one last-v.
      then-got (cart s a) _ r λ x b read-cart t.
      then-got (count 16 s b) _ t λ n d read-n w.
      then-got (obstacles s n 0 d) _ w λ os e read-os y.
      then-got (count 64 s e) _ y λ k f read-k q.
      then-got (neighbours s k f) _ q λ ls g read-ls h.
      then-got (ended s g) _ h λ o j read-end last.
      guard-got (eqb g (length s)) 2 _ read-end λ is-end last-g.
      count-taken 16 b n d read-n λ word-n few.
      count-taken 64 e k f read-k λ word-k fewer.
      let version-one : v ≡ 1 = eqb-true v 1 is_one in
      let size : n ≡ length os = sym (many-length _ _ n 0 d os e read-os) in
      let count : k ≡ length ls = sym (many-length _ _ k tt f ls g read-ls) in
      let place : g ≡ m = (got_same last-g).1 ∙ (got_same last).1 in
      next a b d e f x os ls (read-v ∙ rw (version-one, (got_same last-v).1)) read-cart (rw size at word-n)
      (rw size at few) (rw size at read-os)
      (rw count at word-k) (rw count at fewer) (rw (count, place) at read-ls) (sym place
      ∙ eqb-true g (length s) is-end) (sym (got_same last).0 ∙ rw (size, count))

  pub scene-taken-version-1 : (c : Scene) (m : ℕ) → scene_in_version1 s ≡ got c m →
      ((n : ℕ) → word 2 s 0 ≡ got n 2 → n ≤ longest_rest → n ≡ length s - 2 → fields_in s 2 ≡ got c m → C) → C
  unfolding scene_in_version1 announced
  scene-taken-version-1 c m e next =
      then-got (announced longest_rest s) _ e λ u a p r.
      then-got (word 2 s 0) _ p λ n b read-n t.
      guard-got (leb n longest_rest) 4 _ t λ few w.
      guard-got (eqb n (length s - 2)) 2 _ w λ right last.
      let place : b ≡ 2 = (word_fits s 2 0 n b read-n).0 in
      let start : a ≡ 2 = sym (got_same last).1 ∙ place in
      next n (rw place at read-n) (leb-true n longest_rest few) (eqb-true n (length s - 2) right) (rw start at r)

  -- ---- both versions

  pub numbered-taken : {A : Type 0} (make : Cart → ℕ → List Obstacle → ℕ → List NumberedLine →
      A) (v : Version) (at : ℕ) (r : A) (m : ℕ) → fields_with make v s at ≡ got r m
      → ((b d e f : ℕ) (x : Cart) (os : List Obstacle) (ls : List NumberedLine) → cart s at ≡ got x b
      → word 1 s b ≡ got (length os) d → length os ≤ 16 → obstacles s (length os) 0 d ≡ got os e
      → word 1 s e ≡ got (length ls) f → length ls ≤ 64 → numbered_lines v s (length ls) f ≡ got ls m → m ≡ length s
      → r ≡ make x (length os) os (length ls) ls → C) → C
  unfolding fields_with ended obstacles numbered_lines
  numbered-taken make v at r m z next =
      then-got (cart s at) _ z λ x b read-cart t.
      then-got (count 16 s b) _ t λ n d read-n w.
      then-got (obstacles s n 0 d) _ w λ os e read-os y.
      then-got (count 64 s e) _ y λ k f read-k q.
      then-got (numbered_lines v s k f) _ q λ ls g read-ls h.
      then-got (ended s g) _ h λ o j read-end last.
      guard-got (eqb g (length s)) 2 _ read-end λ is-end last-g.
      count-taken 16 b n d read-n λ word-n few.
      count-taken 64 e k f read-k λ word-k fewer.
      let size : n ≡ length os = sym (many-length _ _ n 0 d os e read-os) in
      let count : k ≡ length ls = sym (many-length _ _ k tt f ls g read-ls) in
      let place : g ≡ m = (got_same last-g).1 ∙ (got_same last).1 in
      next b d e f x os ls read-cart (rw size at word-n) (rw size at few) (rw size at read-os)
      (rw count at word-k) (rw count at fewer) (rw (count, place) at read-ls) (sym place
      ∙ eqb-true g (length s) is-end) (sym (got_same last).0 ∙ rw (size, count))

  pub record-taken : {A : Type 0} (make : Cart → ℕ → List Obstacle → ℕ → List NumberedLine →
      A) (v : Version) (r : A) (m : ℕ) → record_with make v s ≡ got r m
      → ((n : ℕ) → word 2 s 0 ≡ got n 2 → n ≡ length s - 2 → n ≤ longest_either → word 1 s 2 ≡ got (byte_of v) 3 →
      length s - 2 ≤ longest_of v → fields_with make v s 3 ≡ got r m → C) → C
  unfolding record_with announced version behind_version
  record-taken make v r m e next =
      then-got (announced longest_either s) _ e λ u a p q.
      then-got (word 2 s 0) _ p λ n b read-n t.
      guard-got (leb n longest_either) 4 _ t λ few w.
      guard-got (eqb n (length s - 2)) 2 _ w λ right last.
      then-got (version (byte_of v) s a) _ q λ o d read-v z.
      then-got (word 1 s a) _ read-v λ i f read-i k.
      guard-got (eqb i (byte_of v)) 1 _ k λ this last-v.
      guard-got (leb (length s - 2) (longest_of v)) 4 _ z λ fits fields.
      let place : b ≡ 2 = (word_fits s 2 0 n b read-n).0 in
      let start : a ≡ 2 = sym (got_same last).1 ∙ place in
      let byte : i ≡ byte_of v = eqb-true i (byte_of v) this in
      let behind : f ≡ 3 = (word_fits s 1 a i f read-i).0 ∙ rw start in
      let stop : d ≡ 3 = sym (got_same last-v).1 ∙ behind in
      next n (rw place at read-n) (eqb-true n (length s - 2) right) (leb-true n longest_either few)
      (rw (start, byte, behind) at read-i)
      (leb-true (length s - 2) (longest_of v) fits) (rw stop at fields)
