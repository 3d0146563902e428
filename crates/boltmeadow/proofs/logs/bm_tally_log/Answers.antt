-- `boltmeadow::logs::bm_tally_log` meets its contract. Assumes nothing.
use mathlib.Core.Path.{ap, sym, ◌∙◌}
use Rattle.daily_tally.specs.Figures.{tallied_of}
use Rattle.boltmeadow.specs.Logs.{tally_told}
use Rattle.boltmeadow.proofs.logs.bm_tally_log.Goals as goal

pub returns-in-Err : goal.returns-in-Err
returns-in-Err c =
    let told = rw (c.from.ensures, c.number.ensures, c.no_figures.ensures) at c.paged-in-Err.ensures in
    told ∙ ap tally_told (ap tallied_of (sym c.in-Err.is) ∙ c.tally_log.ensures)
