-- Two outcomes of a call on a session in four arrays that one promise allows agree: what is told, and what the arrays
-- hold then. Assumes nothing.
use Prim.Native.Nat.{ℕ}
use mathlib.Core.Path.{◌≡◌, ap}
use Rattle.arithmetic.proofs.Agree.{agree}
use Rattle.held_sessions.specs.Blocks.{Block, Left, left}

pub lefts-agree : {one other : ℕ} {held kept : Block} {promised : Left} → left one held ≡ promised →
    left other kept ≡ promised → (one ≡ other) × (held ≡ kept)
lefts-agree p q =
    let same = agree p q in
    (ap (λ (l : Left). l.told) same, ap (λ (l : Left). l.holds) same)
