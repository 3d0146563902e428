-- `index_building::put_ends` meets its contract. Assumes nothing.
use native.Mathlib.Omega.{arith}
use Rattle.index_building.proofs.StoredLaws.{new-short, ends-long, ends-many, ends-short, ends-done}
use Rattle.index_building.proofs.put_ends.Goals as goal

pub returns-then-extent-gt-GREATEST : goal.returns-then-extent-gt-GREATEST
returns-then-extent-gt-GREATEST c = ends-long _ _ _ _ c.if-extent-gt-GREATEST.true

pub returns-then-extent-gt-GREATEST-2 : goal.returns-then-extent-gt-GREATEST-2
returns-then-extent-gt-GREATEST-2 c = ends-many _ _ _ _ (omega (arith, c.if-extent-gt-GREATEST.false)) c.if-extent-gt-GREATEST-2.true

pub returns-then-buffer-lt-START_BYTES : goal.returns-then-buffer-lt-START_BYTES
returns-then-buffer-lt-START_BYTES c = ends-short _ _ _ _ (omega (arith, c.if-extent-gt-GREATEST.false)) (omega (arith, c.if-extent-gt-GREATEST-2.false))
    c.if-buffer-lt-START_BYTES.true

pub put_new_entry-requires : goal.put_new_entry-requires
put_new_entry-requires c =
    let a = c.args in
    omega (arith, new-short a.extent.records a.extent.bytes a.extent.fallbacks, c.put_head.auto.buffer, c.if-buffer-lt-START_BYTES.false)

pub shape_of-buffer : goal.shape_of-buffer
shape_of-buffer c =
    omega (arith, c.put_new_entry.auto.buffer, c.put_head.auto.buffer)

pub returns : goal.returns
returns c =
    ends-done _ _ _ _ (omega (arith, c.if-extent-gt-GREATEST.false)) (omega (arith, c.if-extent-gt-GREATEST-2.false))
    (omega (arith, c.if-buffer-lt-START_BYTES.false)) _ _ _
    c.put_head.ensures c.put_new_entry.ensures.0 c.put_new_entry.ensures.1
