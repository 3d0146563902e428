-- `obstacles::vertices::vertex_at` meets its contract. Assumes nothing.
use mathlib.Core.Path.{refl, sym}
use native.Mathlib.Omega.{arith}
use Rattle.obstacles.proofs.VertexNumbers.{vertex-nth}
use Rattle.obstacles.proofs.vertices.vertex_at.Goals as goal

pub returns : goal.returns
returns c = let a = c.args in sym (vertex-nth a.vertices.now a.i _ refl (omega arith))
