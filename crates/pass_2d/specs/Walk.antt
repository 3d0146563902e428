-- A list walked from its first element to its last: each step is told the elements before its own. Definition only.
-- Assumes nothing.
use Rattle.std.specs.Prelude.{List, [], ◌∷◌, ◌++◌}

module _ {A S : Type 0} where
  -- `walk step earlier list s`: `earlier` stands before `list`
  abbrev pub walk : (List A → A → S → S) → List A → List A → S → S
  walk step earlier [] s = s
  walk step earlier (x ∷ xs) s = walk step (earlier ++ (x ∷ [])) xs (step earlier x s)
