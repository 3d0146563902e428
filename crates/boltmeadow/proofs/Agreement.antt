-- Two outcomes of a change by origin that its promise allows agree: what is told, and what the arrays hold then. Assumes nothing.
use mathlib.Core.Path.{◌≡◌, ap}
use Rattle.arithmetic.proofs.Agree.{agree}
use Rattle.held_sessions.specs.Blocks.{Block}
use Rattle.boltmeadow.specs.declared.sessions.BmChanged.{BmChanged}
use Rattle.boltmeadow.specs.Sessions.{Telling, left_telling}

pub tellings-agree : {one other : BmChanged} {held kept : Block} {promised : Telling} →
    left_telling one held ≡ promised → left_telling other kept ≡ promised → (one ≡ other) × (held ≡ kept)
tellings-agree p q =
    let same = agree p q in
    (ap (λ (t : Telling). t.tells) same, ap (λ (t : Telling). t.holds) same)
