use Prim.Native.Nat.{◌+◌, ◌*◌, ◌≤◌}
use mathlib.Core.Path.{◌≡◌, refl, sym, ◌∙◌}
use native.Mathlib.Omega.{arith}
use lib.ListN.{length, take, get_or}
use borrow.Author.Rules.{rules}
use Rattle.std.proofs.lemmas.Result.{err_from_is_err_and}
use Rattle.admission.specs.Heads.{head_of}
use Rattle.lines.specs.Lines.{lines_of}
use Rattle.edges.specs.declared.Agent.{Agent}
use Rattle.obstacles.specs.Obstacles.{lines}
use Rattle.dodgy_2d.specs.Read.{walls_in, counted, none_told}
use Rattle.dodgy_2d.proofs.HeadsInOrder.{own-left}
use Rattle.dodgy_2d.proofs.EdgesJoined.{joined-none, edges-on, edges-done, part-many, part-lines, part-lefts}
use Rattle.dodgy_2d.proofs.OriginsNoted.{origins-on, origins-done, walls-told}
use Rattle.dodgy_2d.proofs.ScenePasses.{sizes}
use Rattle.dodgy_2d.proofs.edge_lines.edge_lines.Goals as goal

pub loop-i-init : goal.loop-i-init
unfolding lines_of
loop-i-init c = (
  omega arith,
  omega arith,
  omega arith,
  omega arith,
  sym (joined-none _),
  refl,
)

pub bounds-scene-inside-i : goal.bounds-scene-inside-i
bounds-scene-inside-i c = omega (arith, (sizes _ c.scene.invariant).obstacles)

pub bounds-scene-inside-i-in-loop-i : goal.bounds-scene-inside-i-in-loop-i
bounds-scene-inside-i-in-loop-i c = omega (arith, (sizes _ c.scene.invariant).obstacles)

pub slice_bounds-vertices-end : goal.slice_bounds-vertices-end
slice_bounds-vertices-end c =
    let i = c.scene.inside in
    let l = c.loop-i in
    let p = sizes _ c.scene.invariant in
    let kinds : length i.kinds ≡ 16 = search rules in
    let counts : length i.counts ≡ 16 = search rules in
    let next = own-left i.kinds i.counts i.bare.obstacles l.i (omega (arith, p.obstacles)) (omega (arith, p.obstacles)) l.offset
    (omega arith) l.invariant.3 in
    let wide : c.from.result ≡ get_or i.counts l.i 0 = search rules in
    rw wide (omega (arith, next, p.held))

pub add_obstacle-requires : goal.add_obstacle-requires
add_obstacle-requires c =
    let i = c.scene.inside in
    let l = c.loop-i in
    let wide : c.from.result ≡ get_or i.counts l.i 0 = search rules in
    let p = sizes _ c.scene.invariant in
    let kinds : length i.kinds ≡ 16 = search rules in
    let counts : length i.counts ≡ 16 = search rules in
    let next = own-left i.kinds i.counts i.bare.obstacles l.i (omega (arith, p.obstacles)) (omega (arith, p.obstacles)) l.offset
    (omega arith) l.invariant.3 in
    let h = head_of (get_or i.kinds l.i 0) (get_or i.counts l.i 0) in
    let many = part-many c.args.scene.now.agent i.bare.margin i.bare.horizon i.vertices.now l.offset h (omega (arith, next, p.held)) in
    (rw (wide, many) (omega (arith, next, p.vertices)), omega (arith, p.obstacles))

pub returns-in_err-count : goal.returns-in_err-count
returns-in_err-count c =
    let e = err_from_is_err_and c.from_residual.result c.from_residual.ensures.1 in
    let i = c.scene.inside in
    let l = c.loop-i in
    let n = i.bare.obstacles in
    let wide : c.from.result ≡ get_or i.counts l.i 0 = search rules in
    let p = sizes _ c.scene.invariant in
    let kinds : n ≤ length i.kinds = (let k : length i.kinds ≡ 16 = search rules in omega (arith, p.obstacles)) in
    let counts : n ≤ length i.counts = (let k : length i.counts ≡ 16 = search rules in omega (arith, p.obstacles)) in
    let next = own-left i.kinds i.counts n l.i kinds counts l.offset (omega arith) l.invariant.3 in
    let there : 2 * (l.offset + get_or i.counts l.i 0) ≤ length i.vertices.now = omega (arith, next, p.held) in
    let h = head_of (get_or i.kinds l.i 0) (get_or i.counts l.i 0) in
    let agent : Agent = record { position = i.bare.agent.position; velocity = c.args.velocity } in
    let own = part-lines agent i.bare.margin i.bare.horizon i.vertices.now l.offset h there in
    let step = rw (c.in_err-count.was, wide, own) at c.add_obstacle.ensures.1 in
    rw (e.1, e.2, ← c.scene.view_is) (
      omega arith,
      sym (l.invariant.4 ∙ edges-on agent i.bare.margin i.bare.horizon i.vertices.now i.kinds i.counts n kinds counts l.i
          l.offset (lines (lines_of (take (4 * l.count) l.lines.numbers))) _ (omega arith) step),
      none_told,
    )

pub loop-i-preserved : goal.loop-i-preserved
loop-i-preserved c =
    let i = c.scene.inside in
    let l = c.loop-i in
    let n = i.bare.obstacles in
    let wide : c.from.result ≡ get_or i.counts l.i 0 = search rules in
    let p = sizes _ c.scene.invariant in
    let kinds : n ≤ length i.kinds = (let k : length i.kinds ≡ 16 = search rules in omega (arith, p.obstacles)) in
    let counts : n ≤ length i.counts = (let k : length i.counts ≡ 16 = search rules in omega (arith, p.obstacles)) in
    let next = own-left i.kinds i.counts n l.i kinds counts l.offset (omega arith) l.invariant.3 in
    let there : 2 * (l.offset + get_or i.counts l.i 0) ≤ length i.vertices.now = omega (arith, next, p.held) in
    let h = head_of (get_or i.kinds l.i 0) (get_or i.counts l.i 0) in
    let agent : Agent = record { position = i.bare.agent.position; velocity = c.args.velocity } in
    let added = c.in_ok-count.was in
    let own = part-lines agent i.bare.margin i.bare.horizon i.vertices.now l.offset h there in
    let lefts-of = part-lefts agent i.bare.margin i.bare.horizon i.vertices.now l.offset h there in
    let many = part-many agent i.bare.margin i.bare.horizon i.vertices.now l.offset h there in
    let step = rw (added, wide, own) at c.add_obstacle.ensures.1 in
    let noted = rw (wide, lefts-of) at (walls-told c.add_obstacle.ensures.2 added) in
    let few = rw (added, wide, many) at c.add_obstacle.ensures.0 in (
      omega (arith, few, wide),
      rw wide (omega (arith, next, p.vertices)),
      rw wide there,
      rw wide next,
      rw wide (l.invariant.4 ∙ edges-on agent i.bare.margin i.bare.horizon i.vertices.now i.kinds i.counts n kinds counts l.i
          l.offset (lines (lines_of (take (4 * l.count) l.lines.numbers))) _ (omega arith) step),
      rw wide (l.invariant.5 ∙ origins-on agent i.bare.margin i.bare.horizon i.vertices.now i.kinds i.counts n kinds counts
          l.i l.offset (walls_in l.count l.lines.walls) _ (omega arith) noted),
    )

pub returns : goal.returns
returns c =
    let i = c.scene.inside in
    let l = c.loop-i in
    let n = i.bare.obstacles in
    let p = sizes _ c.scene.invariant in
    let kinds : n ≤ length i.kinds = (let k : length i.kinds ≡ 16 = search rules in omega (arith, p.obstacles)) in
    let counts : n ≤ length i.counts = (let k : length i.counts ≡ 16 = search rules in omega (arith, p.obstacles)) in
    let agent : Agent = record { position = i.bare.agent.position; velocity = c.args.velocity } in
    rw (← c.scene.view_is) (
      omega arith,
      sym (l.invariant.4 ∙ edges-done agent i.bare.margin i.bare.horizon i.vertices.now i.kinds i.counts n kinds counts l.i
          l.offset (lines_of (take (4 * l.count) l.lines.numbers)) (omega arith)),
      counted (sym (l.invariant.5 ∙ origins-done agent i.bare.margin i.bare.horizon i.vertices.now i.kinds i.counts n kinds
          counts l.i l.offset (walls_in l.count l.lines.walls) (omega arith))),
    )
