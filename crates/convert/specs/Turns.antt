-- What a turn of the program comes to. Definitions only. Assumes nothing.
use Rattle.std.specs.Prelude.{ℕ, ◌≡◌, List, Option, Some, None}
use Rattle.scene_records.specs.declared.Version.{Version}
use Rattle.conversion.specs.Turns.{ToldStream, Follows}

-- a read that failed brought nothing
abbrev pub brought_in : Option ℕ → ℕ
brought_in (Some n) = n
brought_in None = 0

-- a read or a write failed, and there is no stream more; or for what a read brought the stream goes on by `run`'s step,
-- whose records stand at the output's start
pub data GoesOn (to : Version) (before : ToldStream) (input : List ℕ) (next : Option ToldStream)
    (held output : List ℕ) : Type 0 where
  failed : next ≡ None → GoesOn to before input next held output
  brought-some : (s : ToldStream) → next ≡ Some s → Follows to before input s held output →
      GoesOn to before input next held output
