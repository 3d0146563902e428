-- What a function's proof opens beside its own definition: how a choice comes out. Assumes nothing.
use Rattle.arithmetic.specs.Binary32.{when◌then◌else◌}

unfoldable pub choices : Unit {0}
unfolding when◌then◌else◌
choices = tt
