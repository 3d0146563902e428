-- Laws: a refusal leaves the buffer as it was; what is written leaves the bytes behind it as they were. Assumes nothing.
use Prim.Native.Nat.{ℕ, ◌≤◌}
use mathlib.Core.Path.{◌≡◌, refl, sym}
use mathlib.Core.List.{List, ◌++◌}
use lib.Dec.{leb}
use lib.ListN.{length, take, drop}
use lib.Seq.{take-append_seam, drop-append_seam}
use lib.Ieee.{Float}
use borrow.Author.Tests.{leb-true}
use Rattle.admission.specs.Faults.{Fault, fine, fault, must, ◌⊳◌}
use Rattle.admission.proofs.FaultLaws.{no-fault, ⊳-fine, must-fine, unless-case}
use Rattle.scene_records.specs.declared.Cart.{Cart}
use Rattle.scene_writer.specs.Writing.{parts_fault, lent_bytes, Written, written, laid_scene, written_scene}

module _ (c : Cart) (n : ℕ) (ks cs : List ℕ) (xs : List Float) (m : ℕ) (ls : List Float) (buffer : List ℕ) where
  abbrev bytes : List ℕ
  bytes = lent_bytes c ks cs xs ls

  abbrev all : Fault
  all = parts_fault c n ks cs xs m ls ⊳ must (leb (length bytes) (length buffer)) 10

  pub written-untouched : (r : ℕ) → (written_scene c n ks cs xs m ls buffer).told ≡ fault r →
      (written_scene c n ks cs xs m ls buffer).contents ≡ buffer
  unfolding written_scene laid_scene
  written-untouched r = unless-case (λ (w : Written). w.told ≡ fault r →
      w.contents ≡ buffer) (λ k. written (fault k) 0 buffer) all (λ h e. absurd (no-fault r e)) (λ k h e. refl)

  -- accepted: the parts pass, and the buffer is the record in front of what stood behind it
  pub record Accepted : Type 0 where
    pub parts : parts_fault c n ks cs xs m ls ≡ fine
    pub room : length bytes ≤ length buffer
    pub size : (written_scene c n ks cs xs m ls buffer).size ≡ length bytes
    pub record-there : take (length bytes) (written_scene c n ks cs xs m ls buffer).contents ≡ bytes
    pub behind : drop (length bytes) (written_scene c n ks cs xs m ls buffer).contents ≡ drop (length bytes) buffer

  fine-parts : all ≡ fine → (parts_fault c n ks cs xs m ls ≡ fine) × (length bytes ≤ length buffer)
  fine-parts e =
      let a = ⊳-fine (parts_fault c n ks cs xs m ls) e in
      (a.0, leb-true (length bytes) (length buffer) (must-fine (leb (length bytes) (length buffer)) 10 a.1))

  whole : all ≡ fine → written_scene c n ks cs xs m ls buffer ≡ written fine (length bytes) (bytes ++ drop (length bytes) buffer)
  unfolding written_scene laid_scene
  whole e = rw e

  all-fine : (written_scene c n ks cs xs m ls buffer).told ≡ fine → all ≡ fine
  unfolding written_scene laid_scene
  all-fine = go all
    where
      go : (f : Fault) → (Rattle.admission.specs.Faults.unless_fault (λ r. written (fault r) 0 buffer) f
          (written fine (length bytes) (bytes ++ drop (length bytes) buffer))).told ≡ fine → f ≡ fine
      go fine e = refl
      go (fault r) e = absurd (no-fault r (sym e))

  pub written-accepted : (written_scene c n ks cs xs m ls buffer).told ≡ fine → Accepted
  written-accepted e =
      let h = all-fine e in
      let p = fine-parts h in
      record {
        parts = p.0;
        room = p.1;
        size = rw (whole h);
        record-there = rw (whole h) (take-append_seam bytes (drop (length bytes) buffer));
        behind = rw (whole h) (drop-append_seam bytes (drop (length bytes) buffer));
      }
