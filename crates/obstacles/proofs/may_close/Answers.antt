-- `obstacles::may_close` meets its contract. Assumes nothing.
use Prim.Native.Nat.{◌/◌}
use native.Mathlib.Omega.{arith}
use lib.ListN.{length}
use borrow.Author.Tests.{eq-eqb, ne_eqb}
use Rattle.common.specs.Vectors.{eq_of}
use Rattle.obstacles.specs.Vertices.{vertices_of}
use Rattle.obstacles.specs.Doubled.{doubled}
use Rattle.obstacles.proofs.VertexNumbers.{vertices-many}
use Rattle.obstacles.proofs.DoubledLaws.{closes-none, closes-pair}
use Rattle.obstacles.proofs.may_close.Goals as goal

pub returns-then-count-lt1 : goal.returns-then-count-lt1
returns-then-count-lt1 c =
    let a = c.args in
    let xs = a.vertices.now in
    closes-none a.kind (length xs / 2) (vertices_of xs) (vertices-many xs) (omega arith)

pub returns-then-kind-eq-OPEN : goal.returns-then-kind-eq-OPEN
returns-then-kind-eq-OPEN c =
    let a = c.args in
    let xs = a.vertices.now in
    rw (closes-pair a.kind (length xs / 2) (vertices_of xs) (vertices-many xs) (omega arith), eq-eqb _ _ c.if-kind-eq-OPEN.true)

pub returns : goal.returns
unfolding doubled eq_of
returns c =
    let a = c.args in
    let xs = a.vertices.now in
    rw (
      closes-pair a.kind (length xs / 2) (vertices_of xs) (vertices-many xs) (omega arith),
      ne_eqb _ _ c.if-kind-eq-OPEN.false,
      ← c.vertex_at-first.ensures,
      ← c.vertex_at-last.ensures,
    ) c.ne.ensures
