-- `scene_records::fields_at` meets its contract. Assumes nothing.
use mathlib.Core.Path.{ap}
use Rattle.obstacles.specs.Read.{blank_numbers}
use Rattle.scene_records.specs.Parts.{blank_bytes, blank_vertices}
use Rattle.scene_records.specs.Versions.{blank_words, numbered_as}
use Rattle.scene_records.proofs.Chains.{numbered-exit, refused-exit}
use Rattle.scene_records.proofs.RowLaws.{walls-refuse, count-refuses, rows-refuse, end-refuses, fields-read}
use Rattle.scene_records.proofs.fields_at.Goals as goal

-- each part where the one before it ended

pub returns-in_err-at-clause-answer : goal.returns-in_err-at-clause-answer
unfolding blank_bytes blank_vertices
returns-in_err-at-clause-answer c = numbered-exit _ _ _ c.from_residual-in_err-at.ensures.1
    (walls-refuse _ _ _ _ _ _ _ c.in_ok-cart.ensures c.in_ok-obstacles.ensures.reads _ c.in_err-at.ensures)

pub returns-in_err-at-clause-told : goal.returns-in_err-at-clause-told
unfolding blank_bytes blank_vertices
returns-in_err-at-clause-told c = refused-exit _ _ _ c.from_residual-in_err-at.ensures.1
    (walls-refuse _ _ _ _ _ _ _ c.in_ok-cart.ensures c.in_ok-obstacles.ensures.reads _ c.in_err-at.ensures)

pub returns-in_err-neighbours-clause-answer : goal.returns-in_err-neighbours-clause-answer
unfolding blank_bytes blank_vertices
returns-in_err-neighbours-clause-answer c = numbered-exit _ _ _ c.from_residual-in_err-neighbours.ensures.1
    (count-refuses _ _ _ _ _ _ _ c.in_ok-cart.ensures c.in_ok-obstacles.ensures.reads _ _ c.in_ok-at.ensures _
    c.in_err-neighbours.ensures.reads)

pub returns-in_err-neighbours-clause-told : goal.returns-in_err-neighbours-clause-told
unfolding blank_bytes blank_vertices
returns-in_err-neighbours-clause-told c = refused-exit _ _ _ c.from_residual-in_err-neighbours.ensures.1
    (count-refuses _ _ _ _ _ _ _ c.in_ok-cart.ensures c.in_ok-obstacles.ensures.reads _ _ c.in_ok-at.ensures _
    c.in_err-neighbours.ensures.reads)

pub returns-in_err-at-2-clause-answer : goal.returns-in_err-at-2-clause-answer
unfolding blank_bytes blank_vertices blank_numbers blank_words
returns-in_err-at-2-clause-answer c = numbered-exit _ _ _ c.from_residual-in_err-at-2.ensures.1
    (rows-refuse _ _ _ _ _ _ _ c.in_ok-cart.ensures c.in_ok-obstacles.ensures.reads _ _ c.in_ok-at.ensures _ _
    c.in_ok-neighbours.ensures.reads _ c.in_err-at-2.ensures)

pub returns-in_err-at-2-clause-told : goal.returns-in_err-at-2-clause-told
unfolding blank_bytes blank_vertices blank_numbers blank_words
returns-in_err-at-2-clause-told c = refused-exit _ _ _ c.from_residual-in_err-at-2.ensures.1
    (rows-refuse _ _ _ _ _ _ _ c.in_ok-cart.ensures c.in_ok-obstacles.ensures.reads _ _ c.in_ok-at.ensures _ _
    c.in_ok-neighbours.ensures.reads _ c.in_err-at-2.ensures)

pub returns-in_err-end_at-clause-answer : goal.returns-in_err-end_at-clause-answer
unfolding blank_bytes blank_vertices blank_numbers blank_words
returns-in_err-end_at-clause-answer c = numbered-exit _ _ _ c.from_residual-in_err-end_at.ensures.1
    (end-refuses _ _ _ _ _ _ _ c.in_ok-cart.ensures c.in_ok-obstacles.ensures.reads _ _ c.in_ok-at.ensures _ _
    c.in_ok-neighbours.ensures.reads _ _ c.in_ok-at-2.ensures _ c.in_err-end_at.ensures)

pub returns-in_err-end_at-clause-told : goal.returns-in_err-end_at-clause-told
unfolding blank_bytes blank_vertices blank_numbers blank_words
returns-in_err-end_at-clause-told c = refused-exit _ _ _ c.from_residual-in_err-end_at.ensures.1
    (end-refuses _ _ _ _ _ _ _ c.in_ok-cart.ensures c.in_ok-obstacles.ensures.reads _ _ c.in_ok-at.ensures _ _
    c.in_ok-neighbours.ensures.reads _ _ c.in_ok-at-2.ensures _ c.in_err-end_at.ensures)

pub returns-clause-answer : goal.returns-clause-answer
unfolding blank_bytes blank_vertices blank_numbers blank_words
returns-clause-answer c = ap numbered_as
    (fields-read _ _ _ _ _ _ _ c.in_ok-cart.ensures c.in_ok-obstacles.ensures.reads _ _ c.in_ok-at.ensures _ _
    c.in_ok-neighbours.ensures.reads _ _ c.in_ok-at-2.ensures _ c.in_ok-end_at.ensures)
