-- `relaxation::solve_3d::tighten_into` meets its contract. Assumes nothing.
use Prim.Native.Nat.{ℕ, ◌*◌, ◌≤◌}
use mathlib.Core.Path.{◌≡◌, refl, sym, ◌∙◌}
use mathlib.Core.List.{List, ◌++◌}
use native.Mathlib.Omega.{arith}
use lib.ListN.{length, take, drop}
use lib.Ieee.{Float}
use lib.Seq.{take_at, length-take-le}
use borrow.Author.Rules.{rules}
use Rattle.lines.specs.Lines.{lines_of}
use Rattle.lines.proofs.Rows.{lines-take}
use Rattle.lines.proofs.Stored.{stored_next}
use Rattle.one_line.proofs.LineFolds.{lines-on, lines-done}
use Rattle.relaxation.specs.Relax.{tighten_next, tightened}
use Rattle.relaxation.proofs.TightLaws.{next-kept, next-skipped}
use Rattle.relaxation.proofs.solve_3d.tighten_into.Goals as goal
use Rattle.relaxation.proofs.solve_3d.tighten_into.Goals.{in-Some, in_default}

-- the numbers of the first n lines, before any others
copied : (b front rest : List Float) (n : ℕ) → 4 * n ≤ length b → front ≡ take (4 * n) b →
    take n (lines_of (front ++ rest)) ≡ take n (lines_of b)
copied b front rest n h e =
    let long = length-take-le (4 * n) b h in
    rw (← lines-take (front ++ rest) n, e, take_at (take (4 * n) b) rest (4 * n) long, lines-take b n) refl

pub loop-i-init : goal.loop-i-init
unfolding tightened
loop-i-init c =
    let a = c.args in
    let rest = drop (4 * a.rigid) a.tight.now in
    let same = copied a.earlier.now c.copy_from_slice.new.self rest a.rigid (omega arith) c.copy_from_slice.ensures.after in
    (omega arith, search rules, rw same refl)

pub loop-i-preserved : goal.loop-i-preserved
loop-i-preserved c =
    let a = c.args in
    let l = c.loop-i in
    let few = c.requires.1 in
    let step = rw c.line_at.ensures at c.tighten.ensures in
    elim c.match-tighten.branch [
      | in-Some w ↦ (
        omega arith,
        search rules,
        l.invariant.2 ∙ lines-on (tighten_next a.constraint) a.earlier.now l.i (omega arith)
            (next-kept _ _ _ _ (rw w.in-Some.is at step) ∙
            rw (w.tight-is, w.n-is, w.put_line.ensures, stored_next l.tight l.n _ (omega arith))),
      )
      | in_default w ↦ (
        omega arith,
        search rules,
        l.invariant.2 ∙ lines-on (tighten_next a.constraint) a.earlier.now l.i (omega arith)
            (next-skipped _ _ _ (rw w.in_default.is at step) ∙ rw (w.tight-is, w.n-is) refl),
      )
    ]

pub returns : goal.returns
returns c =
    let a = c.args in
    let l = c.loop-i in (
      omega arith,
      l.invariant.1,
      sym (l.invariant.2 ∙ lines-done (tighten_next a.constraint) a.earlier.now l.i (omega arith)),
    )
