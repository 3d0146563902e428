-- At most 192 edges are crossed: an obstacle has no more edges than vertices, and those that pass have at most 192
-- together. Assumes nothing.
use Prim.Native.Nat.{ℕ, zero, suc, ◌+◌, ◌*◌, ◌/◌, ◌≤◌}
use native.Mathlib.Omega.{arith}
use mathlib.Core.Path.{◌≡◌, refl, ap}
use mathlib.Core.Bool.{Bool, true, false}
use mathlib.Core.List.{List, [], ◌∷◌}
use lib.ListN.{length, take, length-append, length-take}
use lib.Ieee.{Float}
use Rattle.admission.specs.Faults.{fine}
use Rattle.admission.proofs.FaultLaws.{⊳-fine}
use Rattle.common.specs.declared.Vec2.{Vec2}
use Rattle.obstacles.proofs.EdgesInOrder.{few-edges}
use Rattle.layouts.specs.Layouts.{own_kind, own_count, own_fault, lent_fault}
use Rattle.layouts.proofs.LentInOrder.{own_room}
use Rattle.wall_check.specs.Crossings.{crossed, Wall, walls_from, own_walls, walls_of, is_crossed, kept_if, crossed_in, checked_move}
use Rattle.wall_check.proofs.Accepted.{obstacles-pass}
use Rattle.wall_check.proofs.CrossingLaws.{first-crossed}

from-long : (o kind : ℕ) (xs : List Float) (i k : ℕ) → length (walls_from o kind xs i k) ≡ k
unfolding walls_from
from-long o kind xs i zero = refl
from-long o kind xs i (suc k) = ap suc (from-long o kind xs (i + 1) k)

own-few : (o kind n : ℕ) (xs : List Float) → length (own_walls o kind (take (2 * n) xs)) ≤ n
unfolding own_walls
own-few o kind n xs =
    let edges = few-edges kind (length (take (2 * n) xs) / 2) in
    let long : length (take (2 * n) xs) ≤ 2 * n = rw length-take (omega arith) in
    rw from-long (omega (arith, edges, long))

walls-few : (o total n : ℕ) (ks cs : List ℕ) (xs : List Float) → total ≤ 192 → lent_fault total n ks cs xs ≡ fine →
    total + length (walls_of o n ks cs xs) ≤ 192
unfolding walls_of lent_fault
walls-few o total zero ks cs xs t e = omega arith
walls-few o total (suc n) ks cs xs t e =
    let both = ⊳-fine (own_fault total ks cs xs) e in
    let room = own_room total ks cs xs both.0 in
    let ih = walls-few (o + 1) (total + own_count cs) n _ _ _ room.1 both.1 in
    rw length-append (omega (arith, own-few o (own_kind ks) (own_count cs) xs, ih))

kept-few : (b : Bool) (w : Wall) (ws : List Wall) → length (kept_if b w ws) ≤ suc (length ws)
kept-few true w ws = omega arith
kept-few false w ws = omega arith

module _ (from to : Vec2) where
  crossed-few : (ws : List Wall) → length (crossed_in from to ws) ≤ length ws
  unfolding crossed_in
  crossed-few [] = omega arith
  crossed-few (w ∷ ws) = omega (arith, kept-few (is_crossed from to w) w (crossed_in from to ws), crossed-few ws)

  pub few-crossed : (n : ℕ) (ks cs : List ℕ) (xs : List Float) (o i k : ℕ) → checked_move from to n ks cs xs
      ≡ crossed o i k → k ≤ 192
  few-crossed n ks cs xs o i k e =
      let told = first-crossed from to n ks cs xs o i k e in
      let passes = obstacles-pass from to n ks cs xs told.0 in
      omega (arith, told.2, crossed-few (walls_of 0 n ks cs xs), walls-few 0 0 n ks cs xs (omega arith) passes)
