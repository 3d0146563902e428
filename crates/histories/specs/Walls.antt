-- A wall changed by its name, the kind and place of its lines' origins (docs/changes/change.md): what stands then.
-- Definitions only. Assumes nothing.
use Rattle.std.specs.Prelude.{ℕ, ◌+◌, ◌≡◌, Bool, true, false, List, [], ◌∷◌, ◌++◌, length}
use Rattle.arithmetic.proofs.Lists.{All}
use Rattle.lines.specs.declared.Origin.{Origin}
use Rattle.lines.specs.Lines.{lines_of}
use Rattle.session.specs.declared.Session.{Session}
use Rattle.session.specs.Calls.{Changed}
use Rattle.session.specs.Sessions.{lines_in, origins_in}
use Rattle.session.specs.Changes.{is_of, origin_changed_as}
use Rattle.histories.specs.Cuts.{Batch, arriving}

abbrev pub origin_changed_by : Session → ℕ → ℕ → Batch → Changed
origin_changed_by s kind place b = origin_changed_as s kind place b.numbers b.brought

-- an origin of another kind or place
abbrev pub IsOther : ℕ → ℕ → Origin → Type 0
IsOther kind place o = is_of kind place o ≡ false

module _ {A : Type 0} where
  abbrev pub kept_unless : Bool → A → List A → List A
  kept_unless true x xs = xs
  kept_unless false x xs = x ∷ xs

  -- of a list whose elements have these origins, one each, those of another kind or place, in their order
  abbrev pub others_of : ℕ → ℕ → List Origin → List A → List A
  others_of kind place os [] = []
  others_of kind place [] (x ∷ xs) = x ∷ xs
  others_of kind place (o ∷ os) (x ∷ xs) = kept_unless (is_of kind place o) x (others_of kind place os xs)

-- after a change by origin
pub record WallGone (s : Session) (kind place : ℕ) (b : Batch) : Type 0 where
  -- the lines of other origins stand, and the batch's behind them, each with its origin;
  pub lines_are : lines_in (origin_changed_by s kind place b).fed.session ≡ others_of kind place (origins_in s) (lines_in s)
      ++ lines_of b.numbers
  pub origins-are : origins_in (origin_changed_by s kind place b).fed.session
      ≡ others_of kind place (origins_in s) (origins_in s) ++ arriving b
  -- before the batch's own no origin has the kind and place;
  pub none_left : All (IsOther kind place) (others_of kind place (origins_in s) (origins_in s))
  -- and as many lines went as are told
  pub all_told : length (others_of kind place (origins_in s) (lines_in s)) + (origin_changed_by s kind place b).withdrawn
      ≡ length (lines_in s)
