-- 01, "Refusal numbers": "fields left to right, each first for missing bytes (2), then its own rule". A step of reading
-- at a place gives a refusal's number, or a value and the place behind it. Definitions only. Assumes nothing.
use Rattle.std.specs.Prelude.{ℕ, zero, suc, ◌+◌, Bool, true, false, List, [], ◌∷◌, length, take, drop, leb}
use Rattle.fields.specs.Bytes.{big_endian_number}

pub data Got (A : Type 0) : Type 0 where
  refused : ℕ → Got A
  got : A → ℕ → Got A

-- the first fault is told; else the next step goes on with the value, at the place behind it
abbrev pub then : {A B : Type 0} → Got A → (A → ℕ → Got B) → Got B
then (refused n) next = refused n
then (got a at) next = next a at

-- what follows if the rule passes, else the refusal
abbrev pub guard : {A : Type 0} → Bool → ℕ → Got A → Got A
guard true n g = g
guard false n g = refused n

-- a number of w bytes, or 2 where fewer are left
unfoldable pub word : ℕ → List ℕ → ℕ → Got ℕ
word w s at = guard (leb (at + w) (length s)) 2 (got (big_endian_number (take w (drop at s))) (at + w))

-- n steps, one behind the other; what a step may need of those before it is the state, which `on` brings up to date
unfoldable pub many : {A S : Type 0} → (S → ℕ → Got A) → (S → A → S) → ℕ → S → ℕ → Got (List A)
many step on zero state at = got [] at
many step on (suc n) state at = then (step state at) λ a m. then (many step on n (on state a) m) λ rest k. got (a ∷ rest) k
