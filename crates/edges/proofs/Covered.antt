-- The cover test over the lines from the i-th on: a line that covers, one that does not, and none left. Assumes nothing.
use Prim.Native.Nat.{ℕ, ◌+◌, ◌≤◌, ◌<◌}
use mathlib.Core.Path.{◌≡◌, ◌∙◌}
use mathlib.Core.Bool.{true, false, ◌||◌}
use mathlib.Core.List.{List}
use native.Mathlib.Numerals.{add-one}
use lib.ListN.{length, drop, get_or, drop_of_length-le}
use lib.Seq.{drop-cons}
use lib.Ieee.{Float}
use Rattle.common.specs.declared.Vec2.{Vec2}
use Rattle.lines.specs.declared.Line.{Line}
use Rattle.edges.specs.Cover.{covers, is_edge_covered}

module _ (left right : Vec2) (horizon margin : Float) (ls : List Line) (i : ℕ) where
  look : (d : Line) → i < length ls → is_edge_covered left right horizon margin (drop i ls)
      ≡ (covers left right horizon margin (get_or ls i d) || is_edge_covered left right horizon margin (drop (i + 1) ls))
  unfolding is_edge_covered
  look d h = rw (drop-cons ls i d h, add-one)

  pub covered-at : (d : Line) → i < length ls → true ≡ covers left right horizon margin (get_or ls i d) →
      is_edge_covered left right horizon margin (drop i ls) ≡ true
  covered-at d h e = look d h ∙ rw (← e)

  pub covered-on : (d : Line) → i < length ls → false ≡ covers left right horizon margin (get_or ls i d) →
      is_edge_covered left right horizon margin (drop i ls) ≡ is_edge_covered left right horizon margin (drop (i + 1) ls)
  covered-on d h e = look d h ∙ rw (← e)

  pub covered-done : length ls ≤ i → is_edge_covered left right horizon margin (drop i ls) ≡ false
  unfolding is_edge_covered
  covered-done h = rw (drop_of_length-le ls h)
