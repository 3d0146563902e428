-- What one record moved does for the work on all: the loop goes on. Assumes nothing.
use Rattle.std.proofs.Common.{◌≡◌, ℕ, ◌+◌, ◌-◌, ◌*◌, ◌<◌, ◌≤◌, List, ◌++◌, length, take, drop, sym, refl, ap, ◌∙◌, append-nil, add-zero, arith, length-drop, take-append-drop, length-take-le, drop-drop}
use Rattle.scene_records.specs.declared.Version.{Version}
use Rattle.records.specs.Steps.{put_at}
use Rattle.records.proofs.LoopLaws.{put-sized, put_front, put-behind, drop_more}
use Rattle.conversion.specs.declared.Place.{Place}
use Rattle.conversion.specs.Stages.{Stage}
use Rattle.conversion.specs.Streams.{Met, moves, refuses, waits, met_in, next_place, Walked, stopped, after}
use Rattle.conversion.specs.Streams.{onward, walked}
use Rattle.conversion.specs.Steps.{Stepped, goes_on, stops, step_by, step_over, Standing, standing_by}
use Rattle.conversion.specs.Steps.{walked_over}
use Rattle.conversion.proofs.MetLaws.{Meets, moving, refusing, waiting, meets}
use Rattle.conversion.proofs.WalkedLaws.{after_nothing, after-after, work-on}

-- the work that is left at a place, and with it what is done
abbrev left_at : Version → List ℕ → Place → Walked
left_at to s p = walked to p.place (drop p.used s)

abbrev done_at : Version → List ℕ → List ℕ → Place → Walked
done_at to s out p = after p.used (take p.put out) (left_at to s p)

-- two bytes of room for each that is left, from a place on that lies within both
pub record Room (s out : List ℕ) (p : Place) : Type 0 where
  pub inside : p.used ≤ length s
  pub fits : p.put ≤ length out
  pub wide : 2 * (length s - p.used) ≤ length out - p.put

-- a record was moved: the place moves on, bytes behind the moved records stay, and with the work that is left it
-- comes to the same
pub record Advanced (to : Version) (s out : List ℕ) (p next : Place) (held : List ℕ) : Type 0 where
  pub moves : p.used < next.used
  pub grows : p.put ≤ next.put
  pub room : Room s held next
  pub sized : length held ≡ length out
  pub behind : drop next.put held ≡ drop next.put out
  pub same : done_at to s out p ≡ done_at to s held next

data Does (to : Version) (s out : List ℕ) (p : Place) : Stepped → Type 0 where
  advances : {next : Place} {held : List ℕ} → Advanced to s out p next held → Does to s out p (goes_on next held)
  halts : {g : Stage} → left_at to s p ≡ stopped p.place g → Does to s out p (stops g out)

module _ (to : Version) (s out : List ℕ) (p : Place) (room : Room s out p) where
  advanced : (k : ℕ) (t : List ℕ) → 1 ≤ k → k ≤ length (drop p.used s) → length t ≤ 2 * k →
      left_at to s p ≡ after k t (walked to (next_place p.place) (drop k (drop p.used s))) →
      Advanced to s out p (record { used = p.used + k; put = p.put + length t; place = next_place p.place })
      (put_at p.put t out).contents
  advanced k t one there short e =
      let inner : k ≤ length s - p.used = rw length-drop at there in
      let h : p.put + length t ≤ length out = omega (arith, room.wide, room.fits) in
      let size = put-sized p.put t out h in
      let next = next_place p.place in
      record {
        moves = omega arith;
        grows = omega arith;
        room = record {
          inside = omega (arith, room.inside);
          fits = rw size h;
          wide = rw size (omega (arith, room.wide, room.fits));
        };
        sized = size;
        behind = put-behind p.put t out h;
        same =
            ap (after p.used (take p.put out)) e
            ∙ after-after p.used k (take p.put out) t _
            ∙ ap (λ (l : List ℕ). after (p.used + k) (take p.put out ++ t) (walked to next l))
            (drop-drop k p.used s)
            ∙ ap (λ (x : List ℕ). after (p.used + k) x (walked to next (drop (p.used + k) s)))
            (sym (put_front p.put t out h));
      }

  by-met : (q : Met) → Meets to (drop p.used s) q → met_in to (drop p.used s) ≡ q →
      Does to s out p (step_by out p q)
  by-met (moves k t) (moving one there short stays) e =
      advances (advanced k t one there short
      (work-on to p.place (drop p.used s) ∙ ap (onward (walked to) p.place (drop p.used s)) e))
  by-met (refuses r) (refusing some stays) e =
      halts (work-on to p.place (drop p.used s) ∙ ap (onward (walked to) p.place (drop p.used s)) e)
  by-met waits (waiting few) e =
      halts (work-on to p.place (drop p.used s) ∙ ap (onward (walked to) p.place (drop p.used s)) e)

  does : (x : Stepped) → x ≡ step_over to s out p → Does to s out p x
  unfolding step_over
  does x e = rw e (by-met (met_in to (drop p.used s)) (meets to (drop p.used s)) refl)

-- ---- the loop's invariant

pub record Going (to : Version) (s out : List ℕ) (place : ℕ) (held : List ℕ) (p : Place) : Type 0 where
  pub room : Room s held p
  pub sized : length held ≡ length out
  pub behind : drop p.put held ≡ drop p.put out
  pub same : walked to place s ≡ done_at to s held p

pub begins : (to : Version) (s out : List ℕ) (place : ℕ) → 2 * length s ≤ length out →
    Going to s out place out (record { used = 0; put = 0; place = place })
begins to s out place h = record {
  room = record { inside = omega arith; fits = omega arith; wide = omega arith };
  sized = refl;
  behind = refl;
  same = sym (after_nothing (walked to place s));
}

module _ (to : Version) (s out : List ℕ) (place : ℕ) (held : List ℕ) (p : Place) (g : Going to s out place held p) where
  advanced-by : {next : Place} {l : List ℕ} → Does to s held p (goes_on next l) → Advanced to s held p next l
  advanced-by (advances t) = t

  halted-by : {h : Stage} {l : List ℕ} → Does to s held p (stops h l) →
      (l ≡ held) × (left_at to s p ≡ stopped p.place h)
  halted-by (halts e) = (refl, e)

  pub advance : (next : Place) (l : List ℕ) → goes_on next l ≡ step_over to s held p → Advanced to s held p next l
  advance next l e = advanced-by (does to s held p g.room (goes_on next l) e)

  pub goes_on_lem : (next : Place) (l : List ℕ) → goes_on next l ≡ step_over to s held p → Going to s out place l next
  goes_on_lem next l e =
      let t = advance next l e in
      record {
        room = t.room;
        sized = t.sized ∙ g.sized;
        behind = t.behind ∙ drop_more p.put next.put held out t.grows g.behind;
        same = g.same ∙ t.same;
      }

  abbrev pub standing-at : Stage → List ℕ → Standing
  standing-at h l = record { place = p; stage = h; contents = l }

  -- where nothing is left to move, what was done is what the whole work comes to
  pub ends : (h : Stage) (l : List ℕ) → stops h l ≡ step_over to s held p →
      standing-at h l ≡ walked_over to s out place
  unfolding walked_over
  ends h l e =
      let halt = halted-by (does to s held p g.room (stops h l) e) in
      let all : walked to place s ≡ record { used = p.used; bytes = take p.put held; place = p.place; stage = h } =
      g.same ∙ ap (after p.used (take p.put held)) halt.1 ∙ rw (add-zero, append-nil) in
      rw halt.0 (sym (ap (λ (w : Walked). standing_by w out) all
      ∙ rw (length-take-le p.put held g.room.fits, ← g.behind, take-append-drop)))
