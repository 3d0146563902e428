-- A change by origin that is taken leaves no line of the wall that it names (`wall-gone`). Assumes nothing.
use Prim.Native.Nat.{ℕ, ◌+◌}
use mathlib.Core.Path.{◌≡◌, refl, sym, ◌∙◌, ap}
use mathlib.Core.Bool.{Bool, true, false}
use mathlib.Core.List.{List, [], ◌∷◌, ◌++◌}
use native.Mathlib.Omega.{arith}
use lib.ListN.{length, length-append}
use lib.Seq.{append_snoc}
use Rattle.arithmetic.specs.Binary32.{when◌then◌else◌}
use Rattle.arithmetic.proofs.Lists.{All, none, more}
use Rattle.lines.specs.declared.Origin.{Origin}
use Rattle.admission.specs.Faults.{fine}
use Rattle.admission.proofs.FaultLaws.{⊳-fine}
use Rattle.session.specs.declared.Session.{Session}
use Rattle.session.specs.Sessions.{lines_in, origins_in}
use Rattle.session.specs.Handed.{Handed}
use Rattle.session.specs.Withdrawals.{without, without_all}
use Rattle.session.specs.Changes.{change_fault, is_of, index_if, indices_from, indices_of, origin_changed_as}
use Rattle.histories.specs.Cuts.{Batch}
use Rattle.histories.specs.Walls.{origin_changed_by, IsOther, kept_unless, others_of, WallGone}
use Rattle.histories.proofs.StandLaws.{over-own}
use Rattle.histories.proofs.FreshLaws.{origins-over}
use Rattle.histories.proofs.MetLaws.{batch-passes}
use Rattle.histories.proofs.ChangeLaws.{without-all-long, change-over, change-told, found-ascends}

-- ---- what is left of a list without the indices found

module _ {A : Type 0} where
  -- without the element behind a beginning
  without-behind : (xs : List A) (y : A) (ys : List A) → without (length xs) (xs ++ (y ∷ ys)) ≡ xs ++ ys
  unfolding without
  without-behind [] y ys = refl
  without-behind (x ∷ xs) y ys = ap (λ (l : List A). x ∷ l) (without-behind xs y ys)

  -- behind a beginning that is kept, one element more, whose index is found or not
  left_step : (b : Bool) (xs ys rest : List A) (y : A) (is : List ℕ) →
      without_all is (xs ++ (y ∷ ys)) ≡ xs ++ (y ∷ rest) →
      without_all (index_if b (length xs) ++ is) (xs ++ (y ∷ ys)) ≡ xs ++ kept_unless b y rest
  unfolding index_if when◌then◌else◌ without_all
  left_step true xs ys rest y is h = rw h (without-behind xs y rest)
  left_step false xs ys rest y is h = h

  -- the indices found leave the others
  left_behind : (kind place : ℕ) (os : List Origin) (n : ℕ) (xs ys : List A) → n ≡ length xs → length ys ≡ length os →
      without_all (indices_from kind place n os) (xs ++ ys) ≡ xs ++ others_of kind place os ys
  unfolding indices_from without_all
  left_behind kind place [] n xs [] e k = refl
  left_behind kind place [] n xs (y ∷ ys) e k = absurd (omega arith)
  left_behind kind place (o ∷ os) n xs [] e k = absurd (omega arith)
  left_behind kind place (o ∷ os) n xs (y ∷ ys) e k =
      let long : n + 1 ≡ length (xs ++ (y ∷ [])) = sym (length-append xs (y ∷ []) ∙ omega arith) in
      let rest = left_behind kind place os (n + 1) (xs ++ (y ∷ [])) ys long (omega arith) in
      rw e (left_step (is_of kind place o) xs ys (others_of kind place os ys) y (indices_from kind place (length xs + 1) os)
      (rw e at (rw (append_snoc xs y ys, append_snoc xs y (others_of kind place os ys)) at rest)))

  pub others-left : (kind place : ℕ) (os : List Origin) (xs : List A) → length xs ≡ length os →
      without_all (indices_from kind place 0 os) xs ≡ others_of kind place os xs
  others-left kind place os xs k = left_behind kind place os 0 [] xs refl k

-- none of them has the kind and place
other-more : (kind place : ℕ) (o : Origin) (b : Bool) {os : List Origin} → is_of kind place o ≡ b → All (IsOther kind place) os →
    All (IsOther kind place) (kept_unless b o os)
other-more kind place o true e h = h
other-more kind place o false e h = more e h

pub all-other : (kind place : ℕ) (os : List Origin) → All (IsOther kind place) (others_of kind place os os)
all-other kind place [] = none
all-other kind place (o ∷ os) = other-more kind place o (is_of kind place o) refl (all-other kind place os)

-- ---- the call

module _ (s : Session) (h : Handed s) (kind place : ℕ) (b : Batch)
    (taken : (origin_changed_by s kind place b).fed.judged ≡ fine) where
  abbrev found : List ℕ
  found = indices_of s kind place

  pub wall-gone : WallGone s kind place b
  unfolding origin_changed_as
  wall-gone =
      let up = found-ascends s h kind place in
      let passes = batch-passes (length (without_all found (lines_in s))) b
      (⊳-fine (change_fault s.count found) (sym (change-told s h found b) ∙ taken)).1 in
      let over = change-over (over-own h) found up b passes.admitted passes.room in
      let sized : length (lines_in s) ≡ length (origins_in s) = sym (origins-over (over-own h)) in
      let left = others-left kind place (origins_in s) (lines_in s) sized in
      record {
        lines_are = rw (← left) over.lines_are;
        origins-are = rw (← others-left kind place (origins_in s) (origins_in s) refl) over.origins-are;
        none_left = all-other kind place (origins_in s);
        all_told = rw (taken, ← left) (without-all-long up (lines_in s) refl);
      }
