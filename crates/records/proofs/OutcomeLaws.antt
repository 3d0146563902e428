-- The answer reader takes the reply to every record that is solved, and reads the outcome back. Assumes nothing.
use Prim.Native.Nat.{ℕ, ◌+◌, ◌%◌, ◌^◌, ◌≤◌, ◌<◌}
use native.Mathlib.Omega.{arith}
use native.Mathlib.Nat.{mod-eq_of_lt}
use mathlib.Core.Path.{◌≡◌, refl}
use mathlib.Core.Bool.{Bool, true, false}
use mathlib.Core.List.{List}
use lib.Ieee.{Float, binary32, fits, is_nan, to_bits}
use lib.Ieee.Bits.{to_bits-lt}
use Rattle.arithmetic.specs.Binary32.{when◌then◌else◌}
use Rattle.arithmetic.proofs.Choice.{if-all}
use Rattle.words.proofs.Laws.{nan_pattern}
use Rattle.admission.specs.Faults.{fine}
use Rattle.common.specs.declared.Vec2.{Vec2}
use Rattle.linear_programming.specs.Whole.{Failed, no_line, failed_line, Outcome, stands, refusal, solving, relaxing, rigid_failure}
use Rattle.dodgy_2d.specs.declared.Scene.{Scene}
use Rattle.dodgy_2d.specs.Scenes.{scene_fault}
use Rattle.dodgy_2d.specs.Outcomes.{outcome, pass_at, at_rest, first_pass, second_pass, scene_outcome}
use Rattle.dodgy_2d.proofs.ScenePasses.{pass_fits}
use Rattle.dodgy_2d.proofs.SceneTold.{Told, answered, scene-told}
use Rattle.fields.specs.Got.{got}
use Rattle.scene_records.specs.Versions.{Numbered, scene_in}
use Rattle.scene_records.proofs.ReadAdmitted.{read-admitted}
use Rattle.answer_records.specs.Replies as said
use Rattle.answer_records.specs.Replies.{answer_in}
use Rattle.answer_records.proofs.RoundTrips.{Fits, outcome-read-back}
use Rattle.records.specs.Answered as one

-- ---- the numbers fit their fields

record Below (n x : ℕ) : Type 0 where
  pub low : x < n

pattern-fits : (x : Float) → one.pattern_of x < 2 ^ 32
unfolding one.pattern_of
pattern-fits x =
    let bits : Below (2 ^ 32) (to_bits binary32 x % 2 ^ 32) = record { low = omega arith } in
    let quiet : Below (2 ^ 32) 0x7FC0_0000 = record { low = omega arith } in
    (if-all (Below (2 ^ 32)) (is_nan x) quiet bits).low

-- an f32's bits are four bytes
pattern-whole : (x : Float) → fits binary32 x ≡ true → to_bits binary32 x % 2 ^ 32 ≡ to_bits binary32 x
pattern-whole x h = mod-eq_of_lt (to_bits-lt binary32 x (rw h tt))

-- so its pattern is its bits, those of the quiet NaN too
pattern-by : (x : Float) → fits binary32 x ≡ true → (b : Bool) → is_nan x ≡ b →
    (when b then 0x7FC0_0000 else to_bits binary32 x % 2 ^ 32) ≡ to_bits binary32 x
unfolding when◌then◌else◌
pattern-by x h true n = nan_pattern x n
pattern-by x h false n = pattern-whole x h

pub pattern-bits : (x : Float) → fits binary32 x ≡ true → one.pattern_of x ≡ to_bits binary32 x
unfolding one.pattern_of
pattern-bits x h = pattern-by x h (is_nan x) refl

place-fits : (f : Failed) → one.place_in f < 2 ^ 16
place-fits no_line = omega arith
place-fits (failed_line f) = omega arith

-- ---- the probes of two passes

module _ (c : Scene) (fair : scene_fault c ≡ fine) (code : ℕ) (p : Vec2) (f : Failed) (n : ℕ) where
  same-probes : (k m : ℕ) (q : Vec2) (g : Failed) → outcome k q g m ≡ outcome code p f n → m ≡ n
  same-probes k m q g e = cc

  second-few : (m : ℕ) → m ≤ 16777216 → (o : Outcome) → o ≡ pass_at c at_rest → second_pass m o ≡ outcome code p f n → n ≤ 33554432
  second-few m h (stands (solving q) g k) z e = let s = same-probes 3 (m + k) q g e in omega (arith, pass_fits c at_rest fair z)
  second-few m h (stands (relaxing q d) g k) z e = let s = same-probes 4 (m + k) q g e in omega (arith, pass_fits c at_rest fair z)
  second-few m h (stands (rigid_failure i q) g k) z e =
      let s = same-probes 5 (m + k) q g e in
      omega (arith, pass_fits c at_rest fair z)
  second-few m h (refusal r) z e = absurd (let y : ◌≡◌ {A = ℕ} 0 1 = cc in omega arith)

  first-few : (o : Outcome) → o ≡ pass_at c c.agent.velocity → first_pass c o ≡ outcome code p f n → n ≤ 33554432
  first-few (stands (solving q) g k) z e = let s = same-probes 1 k q g e in omega (arith, pass_fits c c.agent.velocity fair z)
  first-few (stands (relaxing q d) g k) z e =
      let s = same-probes 2 k q g e in
      omega (arith, pass_fits c c.agent.velocity fair z)
  first-few (stands (rigid_failure i q) g k) z e = second-few k (pass_fits c c.agent.velocity fair z) (pass_at c at_rest) refl e
  first-few (refusal r) z e = absurd (let y : ◌≡◌ {A = ℕ} 0 1 = cc in omega arith)

  probes-few : scene_outcome c ≡ outcome code p f n → n ≤ 33554432
  unfolding scene_outcome
  probes-few e = first-few (pass_at c c.agent.velocity) refl (rw fair at e)

-- ---- the outcome's number

told-code : {c : Scene} {code : ℕ} {p : Vec2} {f : Failed} {n : ℕ} → Told c (outcome code p f n) → (1 ≤ code) × (code ≤ 5)
told-code (answered h) = h

-- Where a record is read and its scene solved, the answer reader reads that outcome.
pub outcome-taken : (s : List ℕ) (x : Numbered) (m code : ℕ) (p : Vec2) (f : Failed) (n : ℕ) → scene_in s ≡ got x m →
    scene_outcome x.scene ≡ outcome code p f n
    → answer_in (one.reply_to s) ≡ said.outcome (one.answer_of code p f n)
unfolding one.reply_to one.answered
outcome-taken s x m code p f n z e =
    let number = told-code (rw e at (scene-told x.scene)) in
    let few = probes-few x.scene (read-admitted s x m z) code p f n e in
    let numbers : Fits (one.answer_of code p f n) = record {
      least = number.0;
      most = number.1;
      x = pattern-fits p.x;
      y = pattern-fits p.y;
      failed = place-fits f;
      probes = omega arith;
    } in
    rw (z, e) (outcome-read-back (one.answer_of code p f n) numbers)
