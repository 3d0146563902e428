-- `scene_records::neighbours::store_lines` meets its contract. The invariant: what is stored and what is still to be
-- read make up the whole. Assumes nothing.
use Prim.Native.Nat.{◌-◌}
use mathlib.Core.Path.{◌≡◌}
use Rattle.scene_records.specs.Versions.{numbered_lines, rows, stored_rows}
use Rattle.scene_records.proofs.neighbours.store_lines.Given as goal

abbrev pub invariant-loop-i : goal.invariant-loop-i
invariant-loop-i l = stored_rows (rows l.initial.lines l.initial.numbers) 0 (numbered_lines l.version l.bytes l.count l.at)
    ≡ stored_rows (rows l.lines l.numbers) l.i (numbered_lines l.version l.bytes (l.count - l.i) l.next)
