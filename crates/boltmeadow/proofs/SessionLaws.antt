-- A call on the session that four arrays say, and what it handed back left in them. Assumes nothing.
use Prim.Native.Nat.{ℕ}
use mathlib.Core.Path.{◌≡◌, ap}
use mathlib.Core.List.{List}
use lib.Ieee.{Float}
use Rattle.session.specs.declared.Session.{Session}
use Rattle.session.specs.Calls.{Fed}
use Rattle.session.specs.Batches.{fed_with, fed_as}
use Rattle.session.specs.Changes.{changed_as}
use Rattle.held_sessions.specs.Blocks.{Block, Left, session_in, left, left_by}
use Rattle.boltmeadow.specs.Sessions.{left_telling, left_changed}

module _ (b : Block) {l : Left} {s : Session} {f : Fed} where
  pub batch-left : (xs : List Float) → s ≡ session_in b → f ≡ fed_as s xs → l ≡ left_by f b → l ≡ left_by (fed_as (session_in b) xs) b
  batch-left xs e h k = rw (← e, ← h) k

  pub batch-with-left : (xs : List Float) (os : List ℕ) → s ≡ session_in b → f ≡ fed_with s xs os → l ≡ left_by f b →
      l ≡ left_by (fed_with (session_in b) xs os) b
  batch-with-left xs os e h k = rw (← e, ← h) k

  pub change-left : (is : List ℕ) (xs : List Float) (os : List ℕ) → s ≡ session_in b → f ≡ changed_as s is xs os → l ≡ left_by f b →
      l ≡ left_by (changed_as (session_in b) is xs os) b
  change-left is xs os e h k = rw (← e, ← h) k

-- the same of a change by origin, which tells how many lines it withdrew
pub origin-left : (b : Block) (n : ℕ) (f : Fed) {told : ℕ} {h : Block} → left told h ≡ left_by f b →
    left_telling (record { refusal = told; withdrawn = n }) h ≡ left_changed (record { withdrawn = n; fed = f }) b
unfolding left_changed
origin-left b n f e = ap (λ (l : Left). left_telling (record { refusal = l.told; withdrawn = n }) l.holds) e
