-- Where the fields of a record that was read stand: the lines are last, behind 41 bytes at least. Assumes nothing.
use Prim.Native.Nat.{ℕ, zero, suc, ◌+◌, ◌*◌, ◌≤◌}
use native.Mathlib.Omega.{arith}
use native.Mathlib.Nat.{mul-suc, mul-zero, le_trans}
use mathlib.Core.Path.{◌≡◌, sym, ◌∙◌}
use mathlib.Core.Bool.{Bool}
use mathlib.Core.List.{List}
use lib.ListN.{length}
use lib.Ieee.{Float}
use Rattle.admission.specs.Faults.{within}
use Rattle.common.specs.declared.Vec2.{Vec2}
use Rattle.common.specs.Vectors.{reach}
use Rattle.edges.specs.Edges.{OuterVertex}
use Rattle.obstacles.specs.Doubled.{none_before, on_vertex}
use Rattle.lines.specs.declared.Line.{Line}
use Rattle.fields.specs.Got.{Got, got, many}
use Rattle.fields.proofs.ChainLaws.{then-got, cons-got, got_same}
use Rattle.fields.proofs.Spans.{word_fits}
use Rattle.scene_records.specs.declared.Cart.{Cart}
use Rattle.scene_records.specs.declared.Version.{Version}
use Rattle.scene_records.specs.declared.Version.TheVariants.{One, Two}
use Rattle.scene_records.specs.Steps.{number, vector}
use Rattle.scene_records.specs.Parts.{cart, vertex, vertices_at, Obstacle, obstacle, obstacles, neighbour}
use Rattle.scene_records.specs.Versions.{line_number, NumberedLine, numbered_line, numbered_lines, SceneParts, parts_in}
use Rattle.scene_records.proofs.Taken.{number-taken, vector-taken, cart-taken, vertex-taken, obstacle-taken, line_taken}
use Rattle.scene_moves.specs.Moves.{number_size, line_size}
use Rattle.scene_moves.proofs.VersionParts.{parts-taken}

-- steps of k bytes each
many-places : {A S : Type 0} (step : S → ℕ → Got A) (on : S → A → S) (k : ℕ) →
    ((state : S) (at : ℕ) (a : A) (m : ℕ) → step state at ≡ got a m → m ≡ at + k)
    → (n : ℕ) (state : S) (at : ℕ) (vs : List A) (m : ℕ) → many step on n state at ≡ got vs m → m ≡ at + k * n
unfolding many
many-places step on k one zero state at vs m e = sym (got_same e).1 ∙ omega (arith, mul-zero k)
many-places step on k one (suc n) state at vs m e =
    then-got (step state at) _ e λ a b p r.
    cons-got a (many step on n (on state a) b) r λ rest q u.
    omega (arith, one state at a b p, many-places step on k one n (on state a) b rest m q, mul-suc k n)

-- steps that do not go back
many-onward : {A S : Type 0} (step : S → ℕ → Got A) (on : S → A → S) →
    ((state : S) (at : ℕ) (a : A) (m : ℕ) → step state at ≡ got a m → at ≤ m)
    → (n : ℕ) (state : S) (at : ℕ) (vs : List A) (m : ℕ) → many step on n state at ≡ got vs m → at ≤ m
unfolding many
many-onward step on one zero state at vs m e = omega (arith, (got_same e).1)
many-onward step on one (suc n) state at vs m e =
    then-got (step state at) _ e λ a b p r.
    cons-got a (many step on n (on state a) b) r λ rest q u.
    le_trans (one state at a b p) (many-onward step on one n (on state a) b rest m q)

module _ (s : List ℕ) where
  number-place : (passes : Float → Bool) (at : ℕ) (x : Float) (m : ℕ) → number passes s at ≡ got x m → m ≡ at + 4
  number-place passes at x m e = number-taken s passes at x m e λ b p v t. (word_fits s 4 at b m p).0

  vector-place : (passes : Float → Bool) (at : ℕ) (v : Vec2) (m : ℕ) → vector passes s at ≡ got v m → m ≡ at + 8
  vector-place passes at v m e = vector-taken s passes at v m e λ a p q.
      omega (arith, number-place passes at v.x a p, number-place passes a v.y m q)

  cart-place : (at : ℕ) (x : Cart) (m : ℕ) → cart s at ≡ got x m → m ≡ at + 36
  cart-place at x m z =
      cart-taken s at x m z λ a b d e f p v g h w l read-p read-v read-g read-h read-w read-l same.
      omega (
        arith,
        vector-place _ at p a read-p,
        vector-place _ a v b read-v,
        number-place _ b g d read-g,
        number-place _ d h e read-h,
        vector-place _ e w f read-w,
        number-place _ f l m read-l,
      )

  vertex-place : (before : OuterVertex) (at : ℕ) (v : Vec2) (m : ℕ) → vertex s before at ≡ got v m → m ≡ at + 8
  vertex-place before at v m e = vertex-taken s before at v m e λ p t. vector-place (within reach) at v m p

  obstacle-onward : (total at : ℕ) (o : Obstacle) (m : ℕ) → obstacle s total at ≡ got o m → at ≤ m
  unfolding vertices_at
  obstacle-onward total at o m e =
      obstacle-taken s total at o m e λ a b read-k known read-n room some read-vs pair.
      omega (
        arith,
        (word_fits s 1 at o.kind a read-k).0,
        (word_fits s 1 a _ b read-n).0,
        many-places (vertex s) on_vertex 8 vertex-place _ none_before b o.vertices m read-vs,
      )

  line-place : (at : ℕ) (l : Line) (m : ℕ) → neighbour s at ≡ got l m → m ≡ at + 16
  line-place at l m e = line_taken s at l m e λ a read-p read-d band.
      omega (arith, vector-place _ at l.point a read-p, vector-place _ a l.direction m read-d)

  line-number-place : (v : Version) (at n m : ℕ) → line_number v s at ≡ got n m → m ≡ at + number_size v
  unfolding line_number
  line-number-place One at n m e = omega (arith, (got_same e).1)
  line-number-place Two at n m e = (word_fits s 4 at n m e).0

  numbered-place : (v : Version) (at : ℕ) (l : NumberedLine) (m : ℕ) → numbered_line v s at ≡ got l m → m ≡ at + line_size v
  unfolding numbered_line
  numbered-place v at l m e =
      then-got (line_number v s at) _ e λ n a p r.
      then-got (neighbour s a) _ r λ k b q t.
      omega (arith, line-number-place v at n a p, line-place a k b q, (got_same t).1)

  -- length, version, cart and both counts are 41 bytes
  pub lines-last : (v : Version) (p : SceneParts) (m : ℕ) → parts_in v s ≡ got p m →
      41 + line_size v * length p.neighbours ≤ length s
  unfolding obstacles numbered_lines
  lines-last v p m z =
      parts-taken s v p m z λ n b d e f read right few byte fits read-cart read-os few-os list-os read-ls few-ls list-ls end.
      let lines : m ≡ f + line_size v * length p.neighbours =
      many-places (λ (u : Unit {0}). numbered_line v s) (λ u l. u) (line_size v) (λ u. numbered-place v) _ tt f
      p.neighbours m list-ls in
      omega (
        arith,
        cart-place 3 p.cart b read-cart,
        (word_fits s 1 b _ d read-os).0,
        many-onward (obstacle s) _ obstacle-onward _ 0 d p.obstacles e list-os,
        (word_fits s 1 e _ f read-ls).0,
      )
