-- A law of an obstacle's head: what room for its vertices means. Assumes nothing.
use Prim.Native.Nat.{ℕ, ◌+◌, ◌≤◌}
use mathlib.Core.Path.{◌≡◌}
use mathlib.Core.Bool.{true}
use lib.Dec.{leb}
use borrow.Author.Tests.{leb-true}
use Rattle.arithmetic.proofs.Choice.{and_left, and_right}
use Rattle.admission.specs.Heads.{most_vertices, most_together, room_for}

-- where there is room, both limits are kept
pub room_within : (total count : ℕ) → room_for total count ≡ true → (count ≤ 64) × (total + count ≤ 192)
unfolding room_for
room_within total count h =
    let each = leb count most_vertices in
    let together = leb (total + count) most_together in
    (leb-true _ _ (and_left each together h), leb-true _ _ (and_right each together h))
