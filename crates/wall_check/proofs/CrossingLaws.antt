-- What an answer says of the edges: clear exactly when no edge is crossed, and no edge before the first crossed one is
-- (02, T-08). Assumes nothing.
use Prim.Native.Nat.{ℕ}
use native.Mathlib.Omega.{arith}
use mathlib.Core.Path.{◌≡◌, refl, ap}
use mathlib.Core.Bool.{Bool, true, false}
use mathlib.Core.List.{List, [], ◌∷◌, ◌++◌}
use lib.ListN.{length}
use lib.Ieee.{Float}
use Rattle.admission.specs.Faults.{Fault, fine, fault, unless_fault}
use Rattle.common.specs.declared.Vec2.{Vec2}
use Rattle.wall_check.specs.Crossings.{WallCheck, crossed, clear, refused, Wall, walls_of, is_crossed, kept_if, crossed_in, found_in, move_fault, checked_move}

-- ---- behind the judgement

judged-clear : (f : Fault) (a : WallCheck) → unless_fault refused f a ≡ clear → (f ≡ fine) × (a ≡ clear)
judged-clear fine a e = (refl, e)
judged-clear (fault r) a e = let z : ◌≡◌ {A = ℕ} 0 1 = cc in absurd (omega arith)

judged-crossed : (f : Fault) (a : WallCheck) (o i n : ℕ) → unless_fault refused f a ≡ crossed o i n →
    (f ≡ fine) × (a ≡ crossed o i n)
judged-crossed fine a o i n e = (refl, e)
judged-crossed (fault r) a o i n e = let z : ◌≡◌ {A = ℕ} 0 1 = cc in absurd (omega arith)

count_of : (o i n : ℕ) (ws : List Wall) → found_in ws ≡ crossed o i n → length ws ≡ n
unfolding found_in
count_of o i n [] e = let z : ◌≡◌ {A = ℕ} 0 1 = cc in absurd (omega arith)
count_of o i n (w ∷ ws) e = cc

module _ (from to : Vec2) where
  -- no edge of the list is crossed
  pub data NoneCrossed : List Wall → Type 0 where
    no_edge : NoneCrossed []
    passed : {w : Wall} {ws : List Wall} → is_crossed from to w ≡ false → NoneCrossed ws → NoneCrossed (w ∷ ws)

  -- the edge at this place is the first of the list that is crossed
  pub record FirstCrossed (o i : ℕ) (walls : List Wall) : Type 0 where
    pub before : List Wall
    pub first : Wall
    pub after : List Wall
    pub stands : walls ≡ (before ++ (first ∷ after))
    pub none_before : NoneCrossed before
    pub is-crossed : is_crossed from to first ≡ true
    pub its-obstacle : first.obstacle ≡ o
    pub its-vertex : first.vertex ≡ i

  -- ---- over a list of edges

  none_of : (ws : List Wall) → found_in (crossed_in from to ws) ≡ clear → NoneCrossed ws
  unfolding found_in crossed_in
  none_of [] e = no_edge
  none_of (w ∷ ws) e = go (is_crossed from to w) refl e (none_of ws)
    where
      go : (b : Bool) → is_crossed from to w ≡ b → found_in (kept_if b w (crossed_in from to ws)) ≡ clear
          → (found_in (crossed_in from to ws) ≡ clear → NoneCrossed ws) → NoneCrossed (w ∷ ws)
      go true t h ih = let z : ◌≡◌ {A = ℕ} 0 1 = cc in absurd (omega arith)
      go false t h ih = passed t (ih h)

  crossed-none : (ws : List Wall) → NoneCrossed ws → crossed_in from to ws ≡ []
  unfolding crossed_in
  crossed-none [] no_edge = refl
  crossed-none (w ∷ ws) (passed t rest) = rw t (crossed-none ws rest)

  first_of : (o i n : ℕ) (ws : List Wall) → found_in (crossed_in from to ws) ≡ crossed o i n → FirstCrossed o i ws
  unfolding found_in crossed_in
  first_of o i n [] e = let z : ◌≡◌ {A = ℕ} 0 1 = cc in absurd (omega arith)
  first_of o i n (w ∷ ws) e = go (is_crossed from to w) refl e (first_of o i n ws)
    where
      go : (b : Bool) → is_crossed from to w ≡ b → found_in (kept_if b w (crossed_in from to ws)) ≡ crossed o i n
          → (found_in (crossed_in from to ws) ≡ crossed o i n → FirstCrossed o i ws) → FirstCrossed o i (w ∷ ws)
      go true t h ih = record {
        before = [];
        first = w;
        after = ws;
        stands = refl;
        none_before = no_edge;
        is-crossed = t;
        its-obstacle = cc;
        its-vertex = cc;
      }
      go false t h ih =
          let f = ih h in
          record {
            before = w ∷ f.before;
            first = f.first;
            after = f.after;
            stands = ap (λ (l : List Wall). w ∷ l) f.stands;
            none_before = passed t f.none_before;
            is-crossed = f.is-crossed;
            its-obstacle = f.its-obstacle;
            its-vertex = f.its-vertex;
          }

  -- ---- over the whole check

  module _ (n : ℕ) (ks cs : List ℕ) (xs : List Float) where
    abbrev pub walls : List Wall
    walls = walls_of 0 n ks cs xs

    -- "none exactly when no edge is crossed"
    pub clear-exactly :
        (checked_move from to n ks cs xs ≡ clear → (move_fault from to n ks cs xs ≡ fine) × NoneCrossed walls)
        × ((move_fault from to n ks cs xs ≡ fine) × NoneCrossed walls → checked_move from to n ks cs xs ≡ clear)
    unfolding checked_move found_in
    clear-exactly = (
      λ e. (let both = judged-clear (move_fault from to n ks cs xs) (found_in (crossed_in from to walls)) e in (
        both.0,
        none_of walls both.1,
      )),
      λ h. rw (h.0, crossed-none walls h.1) refl,
    )

    -- "the first crossed edge in record order .. and the number of crossed edges"
    pub first-crossed : (o i k : ℕ) → checked_move from to n ks cs xs ≡ crossed o i k
        → (move_fault from to n ks cs xs ≡ fine) × FirstCrossed o i walls × (length (crossed_in from to walls) ≡ k)
    unfolding checked_move
    first-crossed o i k e =
        let both = judged-crossed (move_fault from to n ks cs xs) (found_in (crossed_in from to walls)) o i k e in
        (both.0, first_of o i k walls both.1, count_of o i k (crossed_in from to walls) both.1)
