-- `session::find` meets its contract. The invariant: those found, and those of the origins from i on. Assumes nothing.
use Rattle.std.proofs.Common.{◌≡◌, ◌≤◌, ◌++◌, take, drop}
use Rattle.session.specs.Changes.{indices_from}
use Rattle.session.proofs.find.Given as goal

abbrev pub invariant-loop-i : goal.invariant-loop-i
invariant-loop-i l = (l.n ≤ l.i) × (indices_from l.kind l.place 0 l.origins
    ≡ take l.n l.found ++ indices_from l.kind l.place l.i (drop l.i l.origins))
