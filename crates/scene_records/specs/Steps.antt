-- 01, "Refusal numbers": "fields left to right, each first for missing bytes (2), then its own rule". The fields of one
-- number, and what a step of the code tells. Definitions only. Assumes nothing.
use Rattle.std.specs.Prelude.{◌≡◌, ℕ, Bool, List, leb, eqb, length, Float, Result, Ok, Err}
use Rattle.std.specs.Float.{binary32}
use Rattle.std.specs.Float.Ieee.{of_bits}
use Rattle.arithmetic.specs.Binary32.{finite}
use Rattle.admission.specs.Faults.{within, inside}
use Rattle.admission.specs.declared.refusal.Refusal.{Refusal}
use Rattle.admission.specs.Refusals.{number_of}
use Rattle.common.specs.declared.Vec2.{Vec2}
use Rattle.common.specs.Vectors.{vec}
use Rattle.fields.specs.Got.{Got, refused, got, then, guard, word}
use Rattle.scene_records.specs.declared.steps.Rule.{Rule}
use Rattle.scene_records.specs.declared.steps.Rule.TheVariants as rule

-- ---- what a step of the code tells

-- a value that was read and the place behind it; or the refusal's number
abbrev pub read_of : {A : Type 0} → Result (A × ℕ) Refusal → Got A
read_of (Ok read) = got read.0 read.1
read_of (Err r) = refused (number_of r)

-- a value that was stored up to the place, which means nothing behind a refusal
abbrev pub told : {A : Type 0} → Result ℕ Refusal → A → Got A
told (Ok at) a = got a at
told (Err r) a = refused (number_of r)

-- a refusal that is handed over is the one that is told
abbrev pub RefusedAs : {A B : Type 0} → Result A Refusal → Got B → Type 0
RefusedAs (Ok a) g = Unit {0}
RefusedAs (Err r) g = g ≡ refused (number_of r)

abbrev pub rule_of : Rule → Float → Bool
rule_of (rule.Within bound) = within bound
rule_of (rule.Inside low high) = inside low high
rule_of rule.Finite = finite

-- ---- the fields

abbrev pub scene_version : ℕ
scene_version = 1

-- "version byte is not 1": 1; so for each version that is asked for
unfoldable pub version : ℕ → List ℕ → ℕ → Got (Unit {0})
version asked s at = then (word 1 s at) λ v a. guard (eqb v asked) 1 (got tt a)

-- "a count is over its limit": 4
unfoldable pub count : ℕ → List ℕ → ℕ → Got ℕ
count most s at = then (word 1 s at) λ n a. guard (leb n most) 4 (got n a)

-- "a number not finite or out of range": 6
unfoldable pub number : (Float → Bool) → List ℕ → ℕ → Got Float
number passes s at = then (word 4 s at) λ b a. guard (passes (of_bits binary32 b)) 6 (got (of_bits binary32 b) a)

-- each component for itself
unfoldable pub vector : (Float → Bool) → List ℕ → ℕ → Got Vec2
vector passes s at = then (number passes s at) λ x a. then (number passes s a) λ y b. got (vec x y) b

-- "leftover bytes last (2)"
unfoldable pub ended : List ℕ → ℕ → Got (Unit {0})
ended s at = guard (eqb at (length s)) 2 (got tt at)
