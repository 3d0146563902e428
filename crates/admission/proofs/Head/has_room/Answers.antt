-- `admission::Head::has_room` meets its contract. Assumes nothing.
use borrow.Author.Tests.{lt-leb, le-leb}
use Rattle.admission.specs.Heads.{room_for}
use Rattle.admission.proofs.Head.has_room.Goals as goal

pub returns-then-count-gt-MOST : goal.returns-then-count-gt-MOST
unfolding room_for
returns-then-count-gt-MOST c = simp (lt-leb _ _ c.if-count-gt-MOST.true)

pub returns : goal.returns
unfolding room_for
returns c = rw (le-leb _ _ c.if-count-gt-MOST.false) c.fits_behind.ensures
