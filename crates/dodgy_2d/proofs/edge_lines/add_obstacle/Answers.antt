use Prim.Native.Nat.{◌+◌, ◌-◌, ◌*◌, ◌/◌, ◌≤◌, ◌<◌}
use mathlib.Core.Path.{◌≡◌, refl, sym, ◌∙◌}
use mathlib.Core.List.{append-nil}
use native.Mathlib.Omega.{arith}
use native.Mathlib.Nat.{add-zero}
use lib.ListN.{length}
use Rattle.std.proofs.lemmas.Result.{err_from_is_err_and}
use Rattle.lines.specs.Lines.{lines_of}
use Rattle.lines.proofs.Stored.{stored-sets}
use Rattle.obstacles.specs.Vertices.{vertices_of}
use Rattle.obstacles.specs.Obstacles.{edge_count, obstacle_lines, obstacle_edges, lines_up_to, makers_up_to}
use Rattle.obstacles.proofs.EdgesInOrder.{few-counted, alone-edge, add_kept, add_nothing, add-refused, maker-kept, maker-nothing}
use Rattle.dodgy_2d.specs.Read.{walls_in, counted, none_told}
use Rattle.dodgy_2d.proofs.EdgesJoined.{standing-own, others-stay, own-next}
use Rattle.dodgy_2d.proofs.OriginsNoted.{noted-on}
use borrow.Author.Rules.{rules}
use Rattle.dodgy_2d.proofs.edge_lines.add_obstacle.Goals as goal
use Rattle.dodgy_2d.proofs.edge_lines.add_obstacle.Goals.{in-Some, in_default}

pub loop-i-init : goal.loop-i-init
unfolding lines_up_to makers_up_to lines_of
loop-i-init c =
    let few = few-counted _ _ c.edge_count-i-end.ensures in
    (omega arith, few, c.requires.0, c.requires.1, search rules, search rules, refl, refl, rw add-zero (sym (append-nil _)))

pub returns-in_err-made : goal.returns-in_err-made
unfolding obstacle_lines
returns-in_err-made c =
    let p = err_from_is_err_and c.from_residual.result c.from_residual.ensures.1 in
    let l = c.loop-i in
    let a = c.args in
    let n = length a.vertices.now / 2 in
    let vs = vertices_of a.vertices.now in
    let cut : 4 * (a.count + l.own) - 4 * a.count ≡ 4 * l.own = omega arith in
    let own-edge : l.i < edge_count a.kind n = omega (arith, c.edge_count-i-end.ensures) in
    let made = rw (c.in_err-made.was, cut) at c.get_line_alone.ensures
    ∙ alone-edge a.cart.agent a.kind n vs a.cart.margin a.cart.horizon a.vertices.now l.i _ refl refl own-edge in
    rw (p.1, p.2) (
      omega arith,
      rw (add-refused a.cart.agent a.kind n vs a.cart.margin a.cart.horizon l.i (edge_count a.kind n) _ _
          l.invariant.7 made (omega arith)),
      none_told,
    )

pub loop-i-preserved : goal.loop-i-preserved
loop-i-preserved c =
    let l = c.loop-i in
    let a = c.args in
    let n = length a.vertices.now / 2 in
    let vs = vertices_of a.vertices.now in
    let cut : 4 * (a.count + l.own) - 4 * a.count ≡ 4 * l.own = omega arith in
    let own-edge : l.i < edge_count a.kind n = omega (arith, c.edge_count-i-end.ensures) in
    let alone = alone-edge a.cart.agent a.kind n vs a.cart.margin a.cart.horizon a.vertices.now l.i _ refl refl own-edge in
    elim c.match-made.branch [
      | in-Some w ↦
          let made = rw (c.in_ok-made.was, w.in-Some.is, cut) at c.get_line_alone.ensures ∙ alone in
          let room : 4 * (a.count + l.own) + 4 ≤ length l.lines.numbers = omega (arith, l.invariant.4) in
          let stored = w.put_line.ensures ∙ stored-sets l.lines.numbers (a.count + l.own) _ room in
          let next : a.count + (l.own + 1) ≡ a.count + l.own + 1 = omega arith in
          rw (w.lines-is, w.own-is) (
            omega arith,
            l.invariant.1,
            l.invariant.2,
            l.invariant.3,
            search rules,
            search rules,
            rw stored (others-stay l.lines.numbers a.count l.own _ room ∙ l.invariant.6),
            rw (stored, own-next l.lines.numbers a.count l.own _ room)
                (add_kept a.cart.agent a.kind n vs a.cart.margin a.cart.horizon l.i _ _ l.invariant.7 made),
            rw (next, maker-kept a.cart.agent a.kind n vs a.cart.margin a.cart.horizon l.i _ _ l.invariant.7 made)
                (noted-on l.lines.walls (a.count + l.own) a.place l.i (walls_in a.count a.lines.now.walls)
                (makers_up_to a.cart.agent a.kind n vs a.cart.margin a.cart.horizon l.i) (omega (arith, l.invariant.5))
                l.invariant.8),
          )
      | in_default w ↦
          let made = rw (c.in_ok-made.was, w.in_default.is, cut) at c.get_line_alone.ensures ∙ alone in
          rw (w.lines-is, w.own-is) (
            omega arith,
            l.invariant.1,
            l.invariant.2,
            l.invariant.3,
            l.invariant.4,
            l.invariant.5,
            l.invariant.6,
            add_nothing a.cart.agent a.kind n vs a.cart.margin a.cart.horizon l.i _ l.invariant.7 made,
            rw (maker-nothing a.cart.agent a.kind n vs a.cart.margin a.cart.horizon l.i _ l.invariant.7 made) l.invariant.8,
          )
    ]

pub returns : goal.returns
unfolding obstacle_lines obstacle_edges
returns c =
    let a = c.args in
    let l = c.loop-i in
    let n = length a.vertices.now / 2 in
    let ended : l.i ≡ edge_count a.kind n = omega (arith, c.edge_count-i-end.ensures) in (
      omega arith,
      rw (standing-own l.lines.numbers a.count l.own (omega (arith, l.invariant.4)), l.invariant.6, ← ended, l.invariant.7),
      counted (rw ended at l.invariant.8),
    )
