-- The obstacles' lines joined, obstacle behind obstacle: in the definitions, and in the numbers that hold them. Assumes nothing.
use Prim.Native.Nat.{ℕ, ◌+◌, ◌-◌, ◌*◌, ◌/◌, ◌≤◌, ◌<◌}
use mathlib.Core.Path.{◌≡◌, refl, sym, ap, ◌∙◌}
use mathlib.Core.List.{List, [], ◌∷◌, ◌++◌, append_assoc, append-nil}
use native.Mathlib.Omega.{arith}
use lib.ListN.{length, take, drop, get_or, length-drop}
use lib.Seq.{sets, length-sets, paste, take-paste, take-add, take_at, drop_at, length-take-le}
use lib.Ieee.{Float}
use Rattle.admission.specs.declared.Head.{Head}
use Rattle.admission.specs.Heads.{head_of}
use Rattle.lines.specs.declared.Line.{Line}
use Rattle.lines.specs.Lines.{lines_of, four_of}
use Rattle.lines.proofs.Rows.{lines-append}
use Rattle.lines.proofs.Numbers.{stored-take}
use Rattle.edges.specs.declared.Agent.{Agent}
use Rattle.obstacles.specs.Vertices.{vertices_of}
use Rattle.obstacles.specs.Obstacles.{Answer, lines, refused, obstacle_lines, obstacle_edges}
use Rattle.obstacles.proofs.VertexNumbers.{part-size}
use Rattle.dodgy_2d.specs.Outcomes.{joined, lines_at, edge_lines}
use Rattle.dodgy_2d.specs.Origins.{lefts_at}
use Rattle.dodgy_2d.proofs.HeadsInOrder.{heads_from, heads-next, heads-none}

-- ---- joining

pub joined-none : (a : Answer) → joined (lines []) a ≡ a
joined-none (lines l) = refl
joined-none (refused r) = refl

joined-assoc : (a b c : Answer) → joined a (joined b c) ≡ joined (joined a b) c
joined-assoc (refused r) b c = refl
joined-assoc (lines l) (refused r) c = refl
joined-assoc (lines l) (lines m) (refused r) = refl
joined-assoc (lines l) (lines m) (lines n) = ap lines (sym (append_assoc l m n))

-- ---- a loop over the obstacles: what is made so far, joined with what the rest makes
module _ (agent : Agent) (margin horizon : Float) (v : List Float) (ks cs : List ℕ) (n : ℕ) (kinds : n ≤ length ks)
    (counts : n ≤ length cs) where
  abbrev pub edges_from : ℕ → ℕ → Answer
  edges_from offset i = edge_lines agent margin horizon v offset (heads_from ks cs n i)

  pub edges-on : (i offset : ℕ) (a b : Answer) → i < n →
      b ≡ joined a (lines_at agent margin horizon v offset (head_of (get_or ks i 0) (get_or cs i 0))) →
      joined a (edges_from offset i) ≡ joined b (edges_from (offset + get_or cs i 0) (i + 1))
  unfolding edge_lines
  edges-on i offset a b h e = rw (heads-next ks cs n i kinds counts h, e) (joined-assoc a _ _)

  pub edges-done : (i offset : ℕ) (l : List Line) → n ≤ i → joined (lines l) (edges_from offset i) ≡ lines l
  unfolding edge_lines
  edges-done i offset l h = rw (heads-none ks cs n i kinds counts h) (ap lines (append-nil l))

-- ---- one obstacle: the vertices that it is lent are its own

module _ (agent : Agent) (margin horizon : Float) (v : List Float) (offset : ℕ) (h : Head)
    (there : 2 * (offset + h.count) ≤ length v) where
  abbrev part : List Float
  part = take (2 * (offset + h.count) - 2 * offset) (drop (2 * offset) v)

  cut : 2 * (offset + h.count) - 2 * offset ≡ 2 * h.count
  cut = omega arith

  pub part-many : length part / 2 ≡ h.count
  part-many = rw cut (part-size v offset h.count (omega arith))

  pub part-lines : obstacle_lines agent h.kind (length part / 2) (vertices_of part) margin horizon
      ≡ lines_at agent margin horizon v offset h
  part-lines = rw (cut, part-size v offset h.count (omega arith))

  pub part-lefts : obstacle_edges agent h.kind (length part / 2) (vertices_of part) margin horizon
      ≡ lefts_at agent margin horizon v offset h
  part-lefts = rw (cut, part-size v offset h.count (omega arith))

-- ---- its own lines behind the `count` that stand

pub standing-own : (b : List Float) (count own : ℕ) → 4 * (count + own) ≤ length b →
    lines_of (take (4 * (count + own)) b) ≡ lines_of (take (4 * count) b) ++ lines_of (take (4 * own) (drop (4 * count) b))
standing-own b count own fits =
    let e : 4 * (count + own) ≡ 4 * count + 4 * own = omega arith in
    let front : length (take (4 * count) b) ≡ 4 * count = length-take-le (4 * count) b (omega arith) in
    rw (e, take-add (4 * count) (4 * own) b) (lines-append (take (4 * count) b) (take (4 * own) (drop (4 * count) b))
    (rw front (omega arith)))

-- one line more
module _ (b : List Float) (count own : ℕ) (l : Line) (fits : 4 * (count + own) + 4 ≤ length b) where
  abbrev stored : List Float
  stored = sets b (4 * (count + own)) (four_of l)

  abbrev standing : List Float
  standing = take (4 * own) (drop (4 * count) b)

  parts : take (4 * count) stored ++ take (4 * (own + 1)) (drop (4 * count) stored) ≡ take (4 * count) b ++ (standing ++ four_of l)
  parts =
      let whole : 4 * count + 4 * (own + 1) ≡ 4 * (count + own + 1) = omega arith in
      let front : 4 * (count + own) ≡ 4 * count + 4 * own = omega arith in
      sym (take-add (4 * count) (4 * (own + 1)) stored)
      ∙ ap (λ (k : ℕ). take k stored) whole
      ∙ stored-take b (count + own) l fits
      ∙ ap (λ (k : ℕ). take k b ++ four_of l) front
      ∙ ap (λ (x : List Float). x ++ four_of l) (take-add (4 * count) (4 * own) b)
      ∙ append_assoc (take (4 * count) b) standing (four_of l)

  long : length (take (4 * count) b) ≡ 4 * count
  long = length-take-le (4 * count) b (omega arith)

  stored-long : length (take (4 * count) stored) ≡ 4 * count
  stored-long = length-take-le (4 * count) stored (rw (length-sets b (4 * (count + own)) (four_of l)) (omega arith))

  pub others-stay : take (4 * count) stored ≡ take (4 * count) b
  others-stay =
      sym (take_at (take (4 * count) stored) _ (4 * count) stored-long)
      ∙ ap (λ (x : List Float). take (4 * count) x) parts
      ∙ take_at (take (4 * count) b) (standing ++ four_of l) (4 * count) long

  own-numbers : take (4 * (own + 1)) (drop (4 * count) stored) ≡ standing ++ four_of l
  own-numbers =
      sym (drop_at (take (4 * count) stored) _ (4 * count) stored-long)
      ∙ ap (λ (x : List Float). drop (4 * count) x) parts
      ∙ drop_at (take (4 * count) b) (standing ++ four_of l) (4 * count) long

  pub own-next : lines_of (take (4 * (own + 1)) (drop (4 * count) stored)) ≡ lines_of standing ++ (l ∷ [])
  unfolding lines_of
  own-next =
      let size : length standing ≡ 4 * own = length-take-le (4 * own) (drop (4 * count) b) (rw length-drop (omega arith)) in
      rw own-numbers (lines-append standing (four_of l) (rw size (omega arith)))

-- ---- the neighbours

-- numbers copied behind `count` lines are lines behind them
pub copied-lines : (numbers more : List Float) (count made : ℕ) → 4 * count ≤ length numbers → 4 * made ≤ length more →
    lines_of (take (4 * (count + made)) (paste numbers (4 * count) more (4 * made)))
    ≡ lines_of (take (4 * count) numbers) ++ lines_of (take (4 * made) more)
copied-lines numbers more count made h k =
    let e : 4 * (count + made) ≡ 4 * count + 4 * made = omega arith in
    let whole : length (take (4 * count) numbers) ≡ 4 * count = length-take-le (4 * count) numbers h in
    rw (e, take-paste numbers (4 * count) more (4 * made) h k)
    (lines-append (take (4 * count) numbers) (take (4 * made) more) (rw whole (omega arith)))
