-- Laws of the answers that the readers promise: each is the only one; that of `read_scene_version_1` is a scene exactly
-- for the bytes of a scene without a fault, and then it is that scene. Assumes nothing.
use Prim.Native.Nat.{ℕ}
use mathlib.Core.Path.{◌≡◌, sym, ap, ◌∙◌}
use mathlib.Core.List.{List}
use Rattle.arithmetic.proofs.Agree.{agree}
use Rattle.std.specs.Prelude.{Result, Ok}
use Rattle.admission.specs.Faults.{fine}
use Rattle.admission.specs.declared.refusal.Refusal.{Refusal}
use Rattle.dodgy_2d.specs.declared.Scene.{Scene}
use Rattle.dodgy_2d.specs.Scenes.{scene_fault}
use Rattle.fields.specs.Bytes.{AllBytes}
use Rattle.fields.specs.Got.{Got, refused, got}
use Rattle.scene_records.specs.declared.NumberedScene.{NumberedScene}
use Rattle.scene_records.specs.declared.Version.{Version}
use Rattle.scene_records.specs.Records.{scene_in_version1, read_as}
use Rattle.scene_records.specs.Versions.{scene_in, scene_in_version, numbered_as}
use Rattle.scene_records.specs.SceneBytes.{scene_bytes}
use Rattle.scene_records.proofs.ReadBytes.{accepted-is-bytes-version-1}
use Rattle.scene_records.proofs.ReadAdmitted.{read-admitted-version-1}
use Rattle.scene_records.proofs.WrittenScenes.{Typed, tidied, bytes-are-read-version-1}

pub answers_agree : (s : List ℕ) {one other : Result NumberedScene Refusal} → one ≡ numbered_as (scene_in s) →
    other ≡ numbered_as (scene_in s) → one ≡ other
answers_agree s = agree

pub answers-agree-of-version : (v : Version) (s : List ℕ) {one other : Result NumberedScene Refusal} →
    one ≡ numbered_as (scene_in_version v s) → other ≡ numbered_as (scene_in_version v s) → one ≡ other
answers-agree-of-version v s = agree

pub answers-agree-version-1 : (s : List ℕ) {one other : Result Scene Refusal} → one ≡ read_as (scene_in_version1 s) →
    other ≡ read_as (scene_in_version1 s) → one ≡ other
answers-agree-version-1 s = agree

-- a scene that is handed over was read
read-got : {C : Type 0} (g : Got Scene) (c : Scene) → read_as g ≡ Ok c → ((m : ℕ) → g ≡ got c m → C) → C
read-got (refused r) c e next = absurd (cc)
read-got (got x at) c e next = next at (ap (λ (y : Scene). got y at) (let z : x ≡ c = cc in z))

module _ (s : List ℕ) (r : Result Scene Refusal) (promised : r ≡ read_as (scene_in_version1 s)) (c : Scene) (is-fine : r ≡ Ok c) where
  reads : {C : Type 0} → ((m : ℕ) → scene_in_version1 s ≡ got c m → C) → C
  reads = read-got (scene_in_version1 s) c (sym promised ∙ is-fine)

  pub answer-is-bytes-version-1 : AllBytes s → s ≡ scene_bytes c
  answer-is-bytes-version-1 h = reads λ m e. accepted-is-bytes-version-1 s h c m e

  pub answer-admitted-version-1 : scene_fault c ≡ fine
  answer-admitted-version-1 = reads λ m e. read-admitted-version-1 s c m e

pub written-answer-version-1 : (c : Scene) (t : Typed c) → scene_fault c ≡ fine → (r : Result Scene Refusal) →
    r ≡ read_as (scene_in_version1 (scene_bytes c)) → r ≡ Ok (tidied c t)
written-answer-version-1 c t e r promised = promised ∙ ap read_as (bytes-are-read-version-1 c t e)
