-- The origins of a pass's lines: walls noted one by one, obstacle behind obstacle, then the neighbours; and the one of
-- a line. Assumes nothing.
use Prim.Native.Nat.{ℕ, zero, suc, ◌+◌, ◌≤◌, ◌<◌}
use mathlib.Core.Path.{◌≡◌, refl, sym, ap, ◌∙◌}
use mathlib.Core.List.{List, [], ◌∷◌, ◌++◌, map, map-append, append_assoc, append-nil}
use native.Mathlib.Omega.{arith}
use native.Mathlib.Nat.{add-zero, zero-add}
use lib.ListN.{length, take, get_or, set, length-append, length-map, get_or-eq_default, get_or-append}
use lib.Seq.{length-take-le, get_or-take, get_or-append-add}
use lib.Ieee.{Float}
use Rattle.std.proofs.lemmas.List.{take-take}
use Rattle.admission.specs.declared.refusal.Refusal.{Refusal}
use Rattle.admission.specs.Heads.{head_of}
use Rattle.lines.specs.declared.Origin.{Origin}
use Rattle.lines.specs.Origins.{unknown, edge_origin, neighbour_origin}
use Rattle.lines.proofs.Fold.{take_set_next}
use Rattle.linear_programming.specs.Whole.{Outcome, refusal}
use Rattle.common.specs.declared.Vec2.{Vec2}
use Rattle.edges.specs.declared.Agent.{Agent}
use Rattle.std.specs.Prelude.{Result, Ok}
use Rattle.dodgy_2d.specs.declared.Scene.{Scene}
use Rattle.dodgy_2d.specs.declared.edge_lines.Wall.{Wall}
use Rattle.dodgy_2d.specs.Outcomes.{pass_at}
use Rattle.dodgy_2d.specs.Origins.{origins_at, edge_origins, edge_origins_at, neighbours_from, failed_origin, pass_origin}
use Rattle.dodgy_2d.specs.Read.{walls_in, WallsAre, counted}
use Rattle.dodgy_2d.proofs.HeadsInOrder.{heads_from, heads-next, heads-none}

-- ---- one wall more

-- behind the walls that are noted, and the obstacle's own among them
pub noted-on : (walls : List Wall) (at place left : ℕ) (noted : List Origin) (lefts : List ℕ) → at < length walls →
    walls_in at walls ≡ noted ++ map (edge_origin place) lefts →
    walls_in (at + 1) (set walls at (record { place = place; vertex = left })) ≡ noted ++ map (edge_origin place) (lefts ++ (left ∷ []))
noted-on walls at place left noted lefts there e =
    let wall : Wall = record { place = place; vertex = left } in
    rw (take_set_next walls at there wall, map-append _ (take at walls) (wall ∷ []), e, map-append (edge_origin place) lefts (left ∷ []))
    (append_assoc noted (map (edge_origin place) lefts) (edge_origin place left ∷ []))

-- ---- obstacle behind obstacle

module _ (agent : Agent) (margin horizon : Float) (v : List Float) (ks cs : List ℕ) (n : ℕ) (kinds : n ≤ length ks)
    (counts : n ≤ length cs) where
  abbrev pub origins_from : ℕ → ℕ → List Origin
  origins_from offset i = edge_origins agent margin horizon v i offset (heads_from ks cs n i)

  pub origins-on : (i offset : ℕ) (so_far noted : List Origin) → i < n →
      noted ≡ so_far ++ origins_at agent margin horizon v i offset (head_of (get_or ks i 0) (get_or cs i 0)) →
      so_far ++ origins_from offset i ≡ noted ++ origins_from (offset + get_or cs i 0) (i + 1)
  unfolding edge_origins
  origins-on i offset so_far noted h e = rw (heads-next ks cs n i kinds counts h, e) (sym (append_assoc so_far _ _))

  pub origins-done : (i offset : ℕ) (so_far : List Origin) → n ≤ i → so_far ++ origins_from offset i ≡ so_far
  unfolding edge_origins
  origins-done i offset so_far h = rw (heads-none ks cs n i kinds counts h) (append-nil so_far)

pub walls-told : {walls : List Wall} {origins : List Origin} {e : Result ℕ Refusal} {n : ℕ} → WallsAre walls origins e →
    e ≡ Ok n → walls_in n walls ≡ origins
walls-told {walls} {origins} {e} {n} told same = count-told (rw same at told)
  where
    count-told : {m : ℕ} → WallsAre walls origins (Ok m) → walls_in m walls ≡ origins
    count-told (counted h) = h

-- those of the first n, lent alone
pub walls-part : (n : ℕ) (walls : List Wall) → n ≤ length walls → walls_in (length (take n walls)) (take n walls) ≡ walls_in n walls
walls-part n walls h = rw (length-take-le n walls h, take-take n n walls (omega arith)) refl

-- ---- the origin of one line

map_at : {A B : Type 0} (f : A → B) (l : List A) (i : ℕ) (b : B) (a : A) → i < length l → get_or (map f l) i b ≡ f (get_or l i a)
map_at f [] i b a h = absurd (omega arith)
map_at f (x ∷ xs) zero b a h = refl
map_at f (x ∷ xs) (suc i) b a h = map_at f xs i b a (omega arith)

neighbours-long : (place n : ℕ) → length (neighbours_from place n) ≡ n
unfolding neighbours_from
neighbours-long place zero = refl
neighbours-long place (suc n) = ap suc (neighbours-long (place + 1) n)

pub neighbour-at : (place n i : ℕ) → i < n → get_or (neighbours_from place n) i unknown ≡ neighbour_origin (place + i)
unfolding neighbours_from
neighbour-at place zero i h = absurd (omega arith)
neighbour-at place (suc n) zero h = rw add-zero
neighbour-at place (suc n) (suc i) h =
    let k : place + 1 + i ≡ place + suc i = omega arith in
    neighbour-at (place + 1) n i (omega arith) ∙ ap neighbour_origin k

module _ (walls : List Wall) (rigid neighbours : ℕ) (fits : rigid ≤ length walls) where
  abbrev all-origins : List Origin
  all-origins = walls_in rigid walls ++ neighbours_from 0 neighbours

  walls-long : length (walls_in rigid walls) ≡ rigid
  walls-long = length-map (take rigid walls) _ ∙ length-take-le rigid walls fits

  pub edge_of : (k : ℕ) (d : Wall) → k < rigid →
      get_or all-origins k unknown ≡ edge_origin (get_or walls k d).place (get_or walls k d).vertex
  edge_of k d h =
      get_or-append (walls_in rigid walls) (neighbours_from 0 neighbours) unknown k (rw walls-long h)
      ∙ map_at (λ (w : Wall). edge_origin w.place w.vertex) (take rigid walls) k unknown d (rw (length-take-le rigid walls fits) h)
      ∙ ap (λ (w : Wall). edge_origin w.place w.vertex) (get_or-take rigid walls k d h)

  pub neighbour-of : (k i : ℕ) → k ≡ rigid + i → i < neighbours → get_or all-origins k unknown ≡ neighbour_origin i
  neighbour-of k i e h =
      let j : k ≡ length (walls_in rigid walls) + i = e ∙ ap (λ (r : ℕ). r + i) (sym walls-long) in
      rw j (get_or-append-add (walls_in rigid walls) (neighbours_from 0 neighbours) i unknown)
      ∙ neighbour-at 0 neighbours i h ∙ ap neighbour_origin (zero-add i)

  pub none_of : (k : ℕ) → rigid + neighbours ≤ k → get_or all-origins k unknown ≡ unknown
  none_of k h =
      get_or-eq_default all-origins unknown (rw (
        length-append (walls_in rigid walls) (neighbours_from 0 neighbours),
        walls-long,
        neighbours-long 0 neighbours,
      ) h)

-- ---- a pass

pub pass-origin : (s : Scene) (velocity : Vec2) (walls : List Origin) (o : Outcome) →
    walls ≡ edge_origins_at s velocity → o ≡ pass_at s velocity →
    failed_origin (walls ++ neighbours_from 0 s.neighbours) o ≡ pass_origin s velocity
unfolding pass_origin
pass-origin s velocity walls o e f = rw (e, f)

pub refused-origin : (s : Scene) (velocity : Vec2) (r : ℕ) → refusal r ≡ pass_at s velocity → unknown ≡ pass_origin s velocity
unfolding pass_origin
refused-origin s velocity r e = rw (← e)
