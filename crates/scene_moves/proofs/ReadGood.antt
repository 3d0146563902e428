-- Law: what a record was read to is admitted, part by part. Assumes nothing.
use Prim.Native.Nat.{ℕ, zero, suc}
use mathlib.Core.Path.{◌≡◌, refl}
use mathlib.Core.Bool.{Bool, true, false}
use mathlib.Core.List.{List}
use lib.Dec.{T}
use lib.Ieee.{Float, binary32, fits, of_bits}
use lib.Ieee.Bits.{of_bits-fits}
use Rattle.admission.specs.Faults.{within}
use Rattle.common.specs.declared.Vec2.{Vec2}
use Rattle.lines.specs.declared.Line.{Line}
use Rattle.common.specs.Vectors.{reach}
use Rattle.edges.specs.Edges.{OuterVertex}
use Rattle.obstacles.specs.Doubled.{none_before, on_vertex}
use Rattle.fields.specs.Got.{Got, got, many}
use Rattle.fields.proofs.Backs.{Every}
use Rattle.fields.proofs.ChainLaws.{then-got, cons-got, got_same}
use Rattle.scene_records.specs.declared.Cart.{Cart}
use Rattle.scene_records.specs.Steps.{number, vector}
use Rattle.scene_records.specs.Parts.{cart, vertex, vertices_at, Obstacle, obstacle, obstacles, neighbour}
use Rattle.scene_records.proofs.Taken.{number-taken, vector-taken, cart-taken, vertex-taken, obstacle-taken, line_taken}
use Rattle.scene_records.proofs.WrittenParts.{Good, GoodVector, GoodCart, GoodVertex, GoodObstacle, GoodLine, on_total}

is_true : (b : Bool) → T b → b ≡ true
is_true true h = refl
is_true false h = absurd h

-- steps that each give what is admitted
pub many-good : {A S : Type 0} (step : S → ℕ → Got A) (on : S → A → S) (P : S → A → Type 0) →
    ((state : S) (at : ℕ) (a : A) (m : ℕ) → step state at ≡ got a m → P state a)
    → (n : ℕ) (state : S) (at : ℕ) (vs : List A) (m : ℕ) → many step on n state at ≡ got vs m → Every P on state vs
unfolding many
many-good step on P one zero state at vs m e = rw (← (got_same e).0) tt
many-good step on P one (suc n) state at vs m e =
    then-got (step state at) _ e λ a b q r.
    cons-got a (many step on n (on state a) b) r λ ws t u.
    rw u (one state at a b q, many-good step on P one n (on state a) b ws m t)

module _ (s : List ℕ) where
  number-good : (passes : Float → Bool) (at : ℕ) (x : Float) (m : ℕ) → number passes s at ≡ got x m → Good passes x
  number-good passes at x m e = number-taken s passes at x m e λ b p v t. record {
    fit = rw v at (is_true (fits binary32 (of_bits binary32 b)) (of_bits-fits binary32 b));
    pass = t;
  }

  vector-good : (passes : Float → Bool) (at : ℕ) (v : Vec2) (m : ℕ) → vector passes s at ≡ got v m → GoodVector passes v
  vector-good passes at v m e = vector-taken s passes at v m e λ a p q. record {
    x = number-good passes at v.x a p;
    y = number-good passes a v.y m q;
  }

  pub cart-good : (at : ℕ) (x : Cart) (m : ℕ) → cart s at ≡ got x m → GoodCart x
  cart-good at x m z =
      cart-taken s at x m z λ a b d e f p v g t w l read-p read-v read-g read-t read-w read-l same.
      rw (← same) (record {
        position = vector-good _ at p a read-p;
        velocity = vector-good _ a v b read-v;
        margin = number-good _ b g d read-g;
        horizon = number-good _ d t e read-t;
        wish = vector-good _ e w f read-w;
        limit = number-good _ f l m read-l;
      })

  vertex-good : (before : OuterVertex) (at : ℕ) (v : Vec2) (m : ℕ) → vertex s before at ≡ got v m → GoodVertex before v
  vertex-good before at v m e = vertex-taken s before at v m e λ p t. record {
    vector = vector-good (within reach) at v m p;
    apart = t;
  }

  obstacle-good : (total at : ℕ) (o : Obstacle) (m : ℕ) → obstacle s total at ≡ got o m → GoodObstacle total o
  unfolding vertices_at
  obstacle-good total at o m e =
      obstacle-taken s total at o m e λ a b read-k known read-n room some read-vs pair.
      record {
        kind = known;
        room = room;
        some = some;
        vertices = many-good (vertex s) on_vertex GoodVertex vertex-good _ none_before b o.vertices m read-vs;
        closed = pair;
      }

  pub obstacles-good : (n total at : ℕ) (os : List Obstacle) (m : ℕ) → obstacles s n total at ≡ got os m →
      Every GoodObstacle on_total total os
  unfolding obstacles
  obstacles-good n total at os m e = many-good (obstacle s) on_total GoodObstacle obstacle-good n total at os m e

  pub line-good : (at : ℕ) (l : Line) (m : ℕ) → neighbour s at ≡ got l m → GoodLine l
  line-good at l m e = line_taken s at l m e λ a read-p read-d band. record {
    point = vector-good _ at l.point a read-p;
    direction = vector-good _ a l.direction m read-d;
    band = band;
  }
