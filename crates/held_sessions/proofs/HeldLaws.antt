-- What one call leaves is what the next one finds: a session laid out is the session that the arrays say, and behind a
-- refusal they hold what they held. Probes are a number of four bytes. Assumes nothing.
use Prim.Native.Nat.{ℕ, ◌^◌, ◌<◌}
use mathlib.Core.Path.{◌≡◌, refl, ◌∙◌, ap}
use native.Mathlib.Nat.{mod-eq_of_lt}
use lib.ListN.{get_or}
use lib.Ieee.{Float, nan}
use Rattle.arithmetic.specs.Binary32.{when◌then◌else◌}
use Rattle.admission.specs.Faults.{fine, fault}
use Rattle.common.specs.declared.Vec2.{Vec2}
use Rattle.common.specs.Vectors.{vec}
use Rattle.lines.proofs.Numbers.{lines-back}
use Rattle.linear_programming.specs.declared.Phase.{Phase}
use Rattle.linear_programming.specs.declared.Phase.TheVariants as phase
use Rattle.plain_numbers.specs.Kinds.{phase_kind, phase_index, phase_in}
use Rattle.plain_numbers.proofs.KindLaws.{failed-back}
use Rattle.session.specs.declared.Session.{Session}
use Rattle.session.specs.Calls.{Fed}
use Rattle.session.proofs.WithdrawalWork.{origins-back}
use Rattle.held_sessions.specs.Blocks.{Block, session_in, numbers_in, block_of, left, left_by}

-- ---- the six numbers

module _ (w : Vec2) (l : Float) where
  wish-back : (p : Phase) → vec (get_or (numbers_in w l p) 0 nan) (get_or (numbers_in w l p) 1 nan) ≡ w
  wish-back (phase.Solving p) = refl
  wish-back (phase.Relaxing p depth) = refl
  wish-back (phase.RigidFailure k p) = refl

  limit-back : (p : Phase) → get_or (numbers_in w l p) 2 nan ≡ l
  limit-back (phase.Solving p) = refl
  limit-back (phase.Relaxing p depth) = refl
  limit-back (phase.RigidFailure k p) = refl

  phase-back : (p : Phase) → phase_in (phase_kind p) (phase_index p) (get_or (numbers_in w l p) 3 nan)
      (get_or (numbers_in w l p) 4 nan) (get_or (numbers_in w l p) 5 nan) ≡ p
  unfolding phase_in when◌then◌else◌
  phase-back (phase.Solving p) = refl
  phase-back (phase.Relaxing p depth) = refl
  phase-back (phase.RigidFailure k p) = refl

-- ---- the session

pub held_back : (s : Session) → s.probes < 2 ^ 32 → session_in (block_of s) ≡ s
unfolding session_in block_of
held_back s h =
    rw (
      lines-back s.lines,
      origins-back s.origins,
      wish-back s.wish s.limit s.phase,
      limit-back s.wish s.limit s.phase,
      phase-back s.wish s.limit s.phase,
      failed-back s.failed,
      mod-eq_of_lt h,
    )

-- ---- a call

module _ (r : Fed) (b : Block) where
  pub left-refused : {n : ℕ} → r.judged ≡ fault n → left_by r b ≡ left n b
  unfolding left_by
  left-refused e = rw e

  pub left-fine : r.judged ≡ fine → left_by r b ≡ left 0 (block_of r.session)
  unfolding left_by
  left-fine e = rw e

  -- the next call finds the session that this one handed back
  pub found-next : r.judged ≡ fine → r.session.probes < 2 ^ 32 → session_in (left_by r b).holds ≡ r.session
  found-next e h = ap (λ l. session_in l.holds) (left-fine e) ∙ held_back r.session h
