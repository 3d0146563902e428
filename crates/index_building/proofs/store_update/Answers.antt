-- `index_building::store_update` meets its contract. Assumes nothing.
use native.Mathlib.Omega.{arith}
use Rattle.index_building.proofs.StoredLaws.{new-length, stored-long, stored-many, stored_short, stored-done}
use Rattle.index_building.proofs.store_update.Goals as goal

pub returns-then-extent-gt-GREATEST : goal.returns-then-extent-gt-GREATEST
returns-then-extent-gt-GREATEST c = stored-long _ _ _ _ c.if-extent-gt-GREATEST.true

pub returns-then-extent-gt-GREATEST-2 : goal.returns-then-extent-gt-GREATEST-2
returns-then-extent-gt-GREATEST-2 c = stored-many _ _ _ _ (omega (arith, c.if-extent-gt-GREATEST.false)) c.if-extent-gt-GREATEST-2.true

pub returns-then-buffer-whole : goal.returns-then-buffer-whole
returns-then-buffer-whole c =
    stored_short _ _ _ _ (omega (arith, c.if-extent-gt-GREATEST.false)) (omega (arith, c.if-extent-gt-GREATEST-2.false))
    (omega (arith, c.if-buffer-whole.true, c.entry_at-whole.ensures))

pub put_new_entry-requires : goal.put_new_entry-requires
put_new_entry-requires c =
    let a = c.args in
    omega (
      arith,
      c.entry_at.ensures,
      new-length a.extent.records a.extent.bytes a.extent.fallbacks,
      c.put_head.auto.buffer,
      c.if-buffer-whole.false,
      c.entry_at-whole.ensures,
    )

pub shape_of-buffer : goal.shape_of-buffer
shape_of-buffer c =
    omega (arith, c.put_new_entry.auto.buffer, c.put_head.auto.buffer)

pub returns : goal.returns
returns c =
    stored-done _ _ _ _ (omega (arith, c.if-extent-gt-GREATEST.false)) (omega (arith, c.if-extent-gt-GREATEST-2.false)) _ _ _
    (omega (arith, c.entry_at-whole.ensures)) (omega (arith, c.if-buffer-whole.false, c.entry_at-whole.ensures)) c.put_head.ensures
    (rw c.entry_at.ensures at c.put_new_entry.ensures.0)
