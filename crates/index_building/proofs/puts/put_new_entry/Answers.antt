-- `index_building::puts::put_new_entry` meets its contract. Assumes nothing.
use native.Mathlib.Omega.{arith}
use Rattle.index_building.proofs.PutLaws.{entry_new, entry-new-length, none-new}
use Rattle.index_building.proofs.puts.put_new_entry.Goals as goal

pub put_entry-requires : goal.put_entry-requires
put_entry-requires c =
    let a = c.args in
    omega (arith, c.requires, entry-new-length a.extent.records a.extent.bytes a.extent.fallbacks c.if-extent-eq0.true)

pub returns-then-extent-eq0 : goal.returns-then-extent-eq0
returns-then-extent-eq0 c =
    let a = c.args in (
      rw (← entry_new a.extent.records a.extent.bytes a.extent.fallbacks c.if-extent-eq0.true) c.put_entry.ensures,
      omega (arith, entry-new-length a.extent.records a.extent.bytes a.extent.fallbacks c.if-extent-eq0.true),
    )

pub returns : goal.returns
returns c = none-new _ _ _ c.if-extent-eq0.false _ _
