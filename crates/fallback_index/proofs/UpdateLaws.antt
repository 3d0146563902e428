-- Laws of an append in the code's steps: the question, the numbers, the stores. Assumes nothing.
use Prim.Native.Nat.{ℕ, ◌+◌, ◌-◌, ◌%◌, ◌≤◌, ◌<◌}
use native.Mathlib.Omega.{arith}
use native.Mathlib.Nat.{sub-zero}
use native.Mathlib.Decide.{dec_le}
use mathlib.Core.Path.{◌≡◌, refl, sym, ap, ◌∙◌}
use mathlib.Core.List.{List, [], ◌++◌, append_assoc}
use lib.Dec.{eqb, leb}
use lib.ListN.{length, take, drop, get_or, length-drop, length-append, take-append-drop}
use lib.Seq.{sets, length-take-le, drop-append-le}
use borrow.Author.Tests.{le-leb, lt-leb, leb-true, eqb-true}
use Rattle.std.specs.Prelude.{Ok, Err}
use Rattle.words.specs.Words.{word_of}
use Rattle.admission.specs.Faults.{Fault, fine, fault, must, ◌⊳◌, unless_fault}
use Rattle.admission.proofs.FaultLaws.{⊳-fine, must-fine}
use Rattle.answer_records.specs.Replies as said
use Rattle.answer_records.specs.declared.Reply.{Reply}
use Rattle.answer_records.specs.declared.Reply.TheVariants as reply
use Rattle.answer_records.specs.Replies.{Said, said_of, answer_in}
use Rattle.answer_logs.specs.Logs.{outcome, refusal, entry_of}
use Rattle.log_walks.specs.Figures.{fallback}
use Rattle.index_building.specs.Indexes.{greatest, index_length, entry_place, new_entry, head, laid_over, IndexWritten, Standing, standing}
use Rattle.log_walks.specs.Walks.{Met}
use Rattle.index_building.specs.declared.Extent.{Extent}
use Rattle.index_building.specs.Builds.{extent}
use Rattle.index_building.specs.Stores.{store_fault, stored_over}
use Rattle.fallback_index.specs.Questions.{Fallbacks, named_log, named_count, head_fault, places_fault, before, head_in, entry_in, stretch_in, question_of}
use Rattle.fallback_index.specs.Appends.{grown_fault, grown, grown_by, asked, unless_bad, update_of, update_in, updated, updated_over, appended_up_to, appended_over}
use Rattle.index_building.proofs.LengthLaws.{head-length}
use Rattle.index_building.proofs.LaidLaws.{laid-sets, nothing-laid}
use Rattle.index_building.proofs.StoredLaws.{new-length}

-- ---- what a question that was answered says of the head

unless-counted : {C : Type 0} (f : Fault) (q : Fallbacks) (m : ℕ) → Ok m ≡ unless_fault Err f q →
    (f ≡ fine → C) → C
unless-counted fine q m e go = go refl
unless-counted (fault r) q m e go = absurd (let z : ◌≡◌ {A = ℕ} 0 1 = cc in omega arith)

named-total : (n : ℕ) (h : List ℕ) → head_fault n h ≡ fine → n ≡ index_length (named_count h)
unfolding head_fault
named-total n h e =
    let a = (⊳-fine (must (leb 4 n) 2) e).1 in
    let b = (⊳-fine (must (eqb n (4 + word_of h 0)) 2) a).1 in
    let c = (⊳-fine (must (leb 5 n) 2) b).1 in
    let d = (⊳-fine (must (eqb (get_or h 4 0) 1) 1) c).1 in
    let f = (⊳-fine (must (leb 13 n) 2) d).1 in
    eqb-true n (index_length (named_count h)) (must-fine (eqb n (index_length (named_count h))) 2 f)

named-log : (total named count x y a b : ℕ) → places_fault total named count x y a b ≡ fine → total ≡ named
unfolding places_fault
named-log total named count x y a b e =
    eqb-true total named (must-fine (eqb total named) 12 (⊳-fine (must (eqb total named) 12) e).0)

pub answered-head : (total n : ℕ) (h x y s t : List ℕ) (a b m : ℕ) → Ok m ≡ question_of total n h x y s t a b →
    (n ≡ index_length (named_count h)) × (total ≡ named_log h)
unfolding question_of
answered-head total n h x y s t a b m e =
    unless-counted (head_fault n h ⊳ places_fault total (named_log h) (named_count h) (word_of x 0) (word_of y 0) a b) _ m e λ f.
    let g = ⊳-fine (head_fault n h) f in
    (named-total n h g.0, named-log total (named_log h) (named_count h) (word_of x 0) (word_of y 0) a b g.1)

-- ---- an append's numbers

module _ (most total n : ℕ) (h first last stretch new : List ℕ) (count : ℕ) (named : count ≡ named_count h) where
  pub update-refused : (r : ℕ) → Err r ≡ question_of total n h first last [] stretch 0 count →
      Err r ≡ update_of most total n h first last stretch new
  unfolding update_of
  update-refused r e = rw (← rw named at e)

  module _ (m : ℕ) (e : Ok m ≡ question_of total n h first last [] stretch 0 count) where
    pub update-bad : (r : ℕ) → Err r ≡ before (count % 64) last stretch →
        Err r ≡ update_of most total n h first last stretch new
    unfolding update_of
    update-bad r f = rw (← rw named at e, ← rw named at f)

    pub update-grown : (log k : ℕ) → log ≡ named_log h → Ok k ≡ before (count % 64) last stretch →
        grown_by most (log + length new) count k (answer_in new) ≡ update_of most total n h first last stretch new
    unfolding update_of
    update-grown log k p f = rw (
      p,
      named,
      ← (answered-head total n h first last [] stretch 0 (named_count h) m
          (rw named at e)).1,
      ← rw named at e,
      ← rw named at f,
    )

-- the numbers with a record that was read
pub grown-said : (most total count fell : ℕ) (r : Reply) → grown_by most total count fell (said_of (Ok r))
    ≡ grown most total (count + 1) (fell + fallback (entry_of r))
grown-said most total count fell (reply.Outcome a) = refl
grown-said most total count fell (reply.Refusal r) = refl

-- what numbers that are told say: they fit, and the index was one of a record less
pub record Fits (n total count fell : ℕ) : Type 0 where
  pub log : total ≤ greatest
  pub records : count ≤ greatest
  pub old : n ≡ entry_place (count + 63)

grown-fits : (n c total count fell t k f : ℕ) → n ≡ index_length c → count ≡ c + 1 → Ok (extent t k f)
    ≡ grown greatest total count fell → Fits n t k f
unfolding grown grown_fault
grown-fits n c total count fell t k f old one e = go (grown_fault greatest total count fell) refl e
  where
    go : (g : Fault) → grown_fault greatest total count fell ≡ g → Ok (extent t k f)
        ≡ unless_fault Err g (Ok (extent total count fell)) → Fits n t k f
    go (fault r) p e = absurd (let z : ◌≡◌ {A = ℕ} 0 1 = cc in omega arith)
    go fine p e =
        let same : extent t k f ≡ extent total count fell = cc in
        let a : t ≡ total = ap (λ (x : Extent). x.bytes) same in
        let b : k ≡ count = ap (λ (x : Extent). x.records) same in
        let g = ⊳-fine (must (leb total greatest) 4) p in
        let i = ⊳-fine (must (leb count greatest) 4) g.1 in
        rw (a, b) (record {
          log = leb-true total greatest (must-fine (leb total greatest) 4 g.0);
          records = leb-true count greatest (must-fine (leb count greatest) 4 i.0);
          old = omega arith;
        })

by-reply : (n c total m t k f : ℕ) (q : Said) → n ≡ index_length c → Ok (extent t k f) ≡ grown_by greatest total c m q
    → Fits n t k f
by-reply n c total m t k f (said.outcome a) old e = grown-fits n c total (c + 1) (m + fallback (outcome a)) t k f old refl e
by-reply n c total m t k f (said.refusal r) old e = grown-fits n c total (c + 1) (m + fallback (refusal r)) t k f old refl e
by-reply n c total m t k f (said.unreadable r) old e = absurd (let z : ◌≡◌ {A = ℕ} 0 1 = cc in omega arith)

module _ (total n : ℕ) (h first last stretch new : List ℕ) (t k f : ℕ) where
  by_before : (m : Met) → n ≡ index_length (named_count h) → Ok (extent t k f)
      ≡ unless_bad (λ x. grown_by greatest (total + length new) (named_count h) x (answer_in new)) m → Fits n t k f
  by_before (Err r) old e = absurd (let z : ◌≡◌ {A = ℕ} 0 1 = cc in omega arith)
  by_before (Ok m) old e = by-reply n (named_count h) (total + length new) m t k f (answer_in new) old e

  by-question : (q : Fallbacks) → q ≡ question_of total n h first last [] stretch 0 (named_count h) →
      Ok (extent t k f) ≡ unless_bad (λ x. grown_by greatest (total + length new) (named_count h) x (answer_in new))
      (asked q (before (named_count h % 64) last stretch)) → Fits n t k f
  by-question (Err r) p e = absurd (let z : ◌≡◌ {A = ℕ} 0 1 = cc in omega arith)
  by-question (Ok m) p e = by_before (before (named_count h % 64) last stretch)
      (answered-head total n h first last [] stretch 0 (named_count h) m p).0 e

  pub update-fits : Ok (extent t k f) ≡ update_of greatest total n h first last stretch new → Fits n t k f
  unfolding update_of
  update-fits e = by-question (question_of total n h first last [] stretch 0 (named_count h)) refl e

pub numbers_fit : (log old new : List ℕ) (t k f : ℕ) → Ok (extent t k f) ≡ update_in greatest log old new →
    Fits (length old) t k f
unfolding update_in
numbers_fit log old new t k f e = update-fits (length log) (length old) (head_in old) (entry_in old 0)
    (entry_in old (named_count (head_in old))) (stretch_in log (entry_in old (named_count (head_in old)))
    (named_count (head_in old))) new t k f e

-- ---- the stores

module _ (l : List ℕ) (n total count fell : ℕ) (room : n ≤ length l) (old : n ≡ entry_place (count + 63))
    (fits : index_length count ≤ length l) where
  abbrev kept : List ℕ
  kept = head total count ++ drop 13 (take n l)

  old-length : length (drop 13 (take n l)) ≡ n - 13
  old-length = length-drop 13 (take n l) ∙ ap (λ (x : ℕ). x - 13) (length-take-le n l room)

  kept-length : length kept ≡ n
  kept-length = length-append (head total count) (drop 13 (take n l)) ∙ omega (arith, head-length total count, old-length)

  behind-head : drop 13 l ≡ drop 13 (take n l) ++ drop n l
  behind-head = ap (drop 13) (sym (take-append-drop n l))
      ∙ drop-append-le 13 (take n l) (drop n l) (omega (arith, length-take-le n l room))

  head-stored : sets l 0 (head total count) ≡ laid_over kept l
  unfolding laid_over
  head-stored = nothing-laid (head total count) l (omega (arith, head-length total count))
      ∙ ap (λ (k : ℕ). head total count ++ drop k l) (head-length total count)
      ∙ ap (λ (d : List ℕ). head total count ++ d) behind-head
      ∙ sym (append_assoc (head total count) (drop 13 (take n l)) (drop n l))
      ∙ ap (λ (k : ℕ). kept ++ drop k l) (sym kept-length)

  pub update-stored : sets (sets l 0 (head total count)) (entry_place (count + 63)) (new_entry count total fell)
      ≡ laid_over (updated total count fell (take n l)) l
  unfolding updated
  update-stored =
      rw head-stored
      (laid-sets kept l (omega (arith, kept-length)) (new_entry count total fell) (entry_place (count + 63))
      (omega (arith, kept-length)) (omega (arith, kept-length, new-length count total fell))
      ∙ ap (λ (x : List ℕ). laid_over x l) (append_assoc (head total count) (drop 13 (take n l)) (new_entry count total fell)))

pub append-stored : (l : List ℕ) (n total count fell : ℕ) → n ≤ length l → Fits n total count fell →
    stored_over l total count fell ≡ updated_over l n (Ok (extent total count fell))
unfolding stored_over store_fault
append-stored l n total count fell room f = go (dec_le (index_length count) (length l))
  where
    go : Dec (index_length count ≤ length l) → stored_over l total count fell ≡ updated_over l n (Ok (extent total count fell))
    go (yes p) =
        rw (
          le-leb total greatest f.log,
          le-leb count greatest f.records,
          le-leb (index_length count) (length l) p,
          update-stored l n total count fell room f.old p,
        )
    go (no p) = rw (
      le-leb total greatest f.log,
      le-leb count greatest f.records,
      lt-leb (index_length count) (length l) (omega arith),
    )

-- ---- an append's answers

module _ (log l new : List ℕ) (n : ℕ) where
  pub append-long : length l < n → standing (Err 2) l ≡ appended_over log l n new
  unfolding appended_over appended_up_to
  append-long h = rw (lt-leb n (length l) h)

  module _ (room : n ≤ length l) where
    pub append-refused : (r : ℕ) → Err r ≡ update_in greatest log (take (n - 0) (drop 0 l)) new →
        standing (Err r) l ≡ appended_over log l n new
    unfolding appended_over appended_up_to
    append-refused r e = rw (le-leb n (length l) room, ← rw sub-zero at e)

    module _ (t k f : ℕ) (e : Ok (extent t k f) ≡ update_in greatest log (take (n - 0) (drop 0 l)) new) where
      append-fits : Fits n t k f
      append-fits = rw (length-take-le n l room) at (numbers_fit log (take n l) new t k f (rw sub-zero at e))

      pub append-done : (s : Standing IndexWritten) → s ≡ stored_over l t k f → s ≡ appended_over log l n new
      unfolding appended_over appended_up_to
      append-done s p = p ∙ append-stored l n t k f room append-fits ∙ rw (le-leb n (length l) room, ← rw sub-zero at e)
