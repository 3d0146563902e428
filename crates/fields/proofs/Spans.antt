-- What a step that gave a value tells of the bytes it read: they are the bytes of that value. Assumes nothing.
use Prim.Native.Nat.{ℕ, zero, suc, ◌+◌, ◌≤◌, ◌<◌, ◌^◌}
use native.Mathlib.Omega.{arith}
use native.Mathlib.Decide.{dec_lt}
use mathlib.Core.Path.{◌≡◌, refl, sym, ap, ◌∙◌}
use mathlib.Core.List.{List, ◌++◌, append_assoc}
use lib.ListN.{length, take, drop, get_or, take-append-drop, length-drop, length-take, get_or-eq_default}
use lib.Seq.{drop-drop, get_or-take, get_or-drop, length-take-le}
use lib.Dec.{leb, lit<}
use borrow.Author.Tests.{leb-true}
use Rattle.fields.specs.Bytes.{big_endian_number, big_endian, each, AllBytes}
use Rattle.fields.specs.Got.{Got, got, word, many}
use Rattle.fields.proofs.ByteLaws.{bytes-of-number, number_lt}
use Rattle.fields.proofs.ChainLaws.{got_same, then-got, guard-got, cons-got}

-- from place `at` to place m stand the bytes b. A record, so that b and m are found from a proof of it
pub record Span (s : List ℕ) (at : ℕ) (b : List ℕ) (m : ℕ) : Type 0 where
  pub stands : drop at s ≡ b ++ drop m s

pub join : {s : List ℕ} {at : ℕ} {b : List ℕ} {m : ℕ} {c : List ℕ} {k : ℕ} → Span s at b m → Span s m c k → Span s at (b ++ c) k
join {s} {at} {b} {m} {c} {k} p q = record {
  stands = p.stands ∙ ap (λ (r : List ℕ). b ++ r) q.stands
      ∙ sym (append_assoc b c (drop k s));
}

-- every part of bytes is bytes
part_bytes : (s : List ℕ) (w at : ℕ) → AllBytes s → AllBytes (take w (drop at s))
part_bytes s w at h i = go (dec_lt i w)
  where
    go : Dec (i < w) → get_or (take w (drop at s)) i 0 < 256
    go (yes p) = rw (get_or-take w (drop at s) i 0 p, get_or-drop at s i 0) (h (at + i))
    go (no p) =
        let q : length (take w (drop at s)) ≤ i = rw length-take (omega arith) in
        rw (get_or-eq_default (take w (drop at s)) 0 q) (lit< tt)

-- a number of w bytes ends w places on, and they are there
pub word_fits : (s : List ℕ) (w at x m : ℕ) → word w s at ≡ got x m → (m ≡ at + w) × (at + w ≤ length s)
unfolding word
word_fits s w at x m e = guard-got (leb (at + w) (length s)) 2 _ e λ t r. (sym (got_same r).1, leb-true (at + w) (length s) t)

module _ (s : List ℕ) (h : AllBytes s) where
  pub word-span : (w at x m : ℕ) → word w s at ≡ got x m → (x < 256 ^ w) × Span s at (big_endian w x) m
  unfolding word
  word-span w at x m e =
      guard-got (leb (at + w) (length s)) 2 _ e λ t r.
      let f : at + w ≤ length s = leb-true (at + w) (length s) t in
      let p : big_endian_number (take w (drop at s)) ≡ x = (got_same r).0 in
      let q : at + w ≡ m = (got_same r).1 in
      let l : length (take w (drop at s)) ≡ w = length-take-le w (drop at s) (rw length-drop (omega arith)) in
      let k : AllBytes (take w (drop at s)) = part_bytes s w at h in
      let b : big_endian w x ≡ take w (drop at s) = rw (l, p) at (bytes-of-number (take w (drop at s)) k) in (
        rw (l, p) at (number_lt (take w (drop at s)) k),
        record {
          stands = rw (b, ← q, ← drop-drop w at s) (sym (take-append-drop w (drop at s)));
        },
      )

-- steps that each read the bytes of their value read those of all, one behind the other
pub many-span : {A S : Type 0} (s : List ℕ) (step : S → ℕ → Got A) (on : S → A → S) (bytes : A → List ℕ)
    → ((state : S) (at : ℕ) (a : A) (m : ℕ) → step state at ≡ got a m → Span s at (bytes a) m)
    → (n : ℕ) (state : S) (at : ℕ) (vs : List A) (m : ℕ) → many step on n state at ≡ got vs m → Span s at (each bytes vs) m
unfolding many each
many-span s step on bytes one zero state at vs m e = rw (← (got_same e).0, ← (got_same e).1) (record { stands = refl })
many-span s step on bytes one (suc n) state at vs m e =
    then-got (step state at) _ e λ a b q r.
    cons-got a (many step on n (on state a) b) r λ ws t u.
    rw u (join (one state at a b q) (many-span s step on bytes one n (on state a) b ws m t))
