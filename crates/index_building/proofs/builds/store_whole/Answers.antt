-- `index_building::builds::store_whole` meets its contract. Assumes nothing.
use native.Mathlib.Omega.{arith}
use Rattle.index_building.proofs.WholeLaws.{start_fits, reached-end, few-records, build-over, build-short, rest-length, rest-whole, build-done}
use Rattle.index_building.proofs.builds.store_whole.Goals as goal

pub returns-then-extent-most : goal.returns-then-extent-most
returns-then-extent-most c = build-over _ _ _ _ (reached-end _ _ c.requires.log_value) c.if-extent-most.true

pub returns-then-buffer-needed : goal.returns-then-buffer-needed
returns-then-buffer-needed c =
    build-short _ _ _ _ (reached-end _ _ c.requires.log_value)
    c.if-extent-most.false (omega (arith, c.if-buffer-needed.true, c.entry_at-needed.ensures))

pub overflow_cast-extent-2 : goal.overflow_cast-extent-2
overflow_cast-extent-2 c =
    let a = c.args in
    omega (
      arith,
      few-records a.most a.log.now a.buffer.now a.extent (reached-end _ _ c.requires.log_value),
      c.if-extent-most.false,
      c.requires.most_le_greatest,
    )

pub fill-requires : goal.fill-requires
fill-requires c =
    let a = c.args in
    let w = reached-end _ _ c.requires.log_value in
    let fits = c.if-extent-most.false in
    let rest = rest-length a.most a.log.now a.buffer.now a.extent w fits in
    record {
      before_value = start_fits _ (omega arith);
      part_value = rest-whole a.most a.log.now a.buffer.now a.extent w fits;
      part_in_bounds = omega (arith, rest, c.put_start.auto.buffer, c.if-buffer-needed.false, c.entry_at-needed.ensures);
    }

pub returns : goal.returns
returns c =
    build-done _ _ _ _ (reached-end _ _ c.requires.log_value) c.if-extent-most.false
    (omega (arith, c.if-buffer-needed.false, c.entry_at-needed.ensures)) _
    (omega (arith, c.entry_at-needed.ensures)) _ _ c.put_start.ensures
    c.fill.ensures
