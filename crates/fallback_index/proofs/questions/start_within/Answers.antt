-- `fallback_index::questions::start_within` meets its contract. Assumes nothing.
use native.Mathlib.Omega.{arith}
use mathlib.Core.Path.{◌∙◌}
use Rattle.fallback_index.proofs.PartLaws.{up-min}
use Rattle.fallback_index.proofs.questions.start_within.Goals as goal

pub returns : goal.returns
returns c = (c.min.ensures ∙ up-min c.args.all c.args.at, omega (arith, c.min.ensures))
