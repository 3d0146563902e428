-- The constants of scene records: the longest rest is what the counts allow, so that the limit is met exactly. Assumes nothing.
use Prim.Native.Nat.{◌+◌, ◌*◌}
use mathlib.Core.Path.{◌≡◌, refl}
use mathlib.Core.List.{[], ◌∷◌}
use Rattle.admission.specs.Heads.{most_together}
use Rattle.dodgy_2d.specs.Scenes.{most_obstacles, most_neighbours}
use Rattle.scene_records.specs.Steps.{scene_version}
use Rattle.scene_records.specs.Records.{longest_rest}
use Rattle.scene_records.specs.Versions.{longest_either}

-- version, cart, obstacle count, kind and vertex count of each obstacle, eight bytes a vertex, neighbour count, sixteen
-- bytes a line; under version 2 four more for its number
pub constants : (scene_version ∷ longest_rest ∷ longest_either ∷ [])
    ≡ (1 ∷ (1 + 36 + 1 + 2 * most_obstacles + 8 * most_together + 1 + 16 * most_neighbours)
    ∷ (longest_rest + 4 * most_neighbours) ∷ [])
constants = refl
