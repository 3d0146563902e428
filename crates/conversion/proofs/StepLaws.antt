-- Laws of one record moved, in the code's words. Assumes nothing.
use Rattle.std.proofs.Common.{◌≡◌, ℕ, ◌+◌, ◌-◌, ◌*◌, ◌≤◌, List, [], ◌++◌, length, take, drop, sym, refl, ap, ◌∙◌, append-nil, add-zero, arith, length-drop, take-append-drop, length-take-le, le-leb, Option, Some, None}
use borrow.Rule.Slice.PartMut.{put_mid}
use Rattle.admission.specs.Faults.{Fault, fine, fault}
use Rattle.admission.proofs.FaultLaws.{no-fault}
use Rattle.fields.specs.Got.{Got, refused, got}
use Rattle.scene_records.specs.declared.Version.{Version}
use Rattle.scene_writer.specs.Writing.{Written, written, laid_scene}
use Rattle.scene_moves.specs.Moves.{moved, laid_move, moved_into}
use Rattle.records.specs.declared.Part.{Part as PartCode}
use Rattle.records.specs.declared.Part.TheVariants as code
use Rattle.records.specs.Parts.{part_of, part_in}
use Rattle.records.proofs.PartLaws.{Lies, lies, hold-lies}
use Rattle.records.proofs.StepLaws.{rest_of, put-in-part}
use Rattle.conversion.specs.declared.Place.{Place}
use Rattle.conversion.specs.Stages as stage
use Rattle.conversion.specs.Streams.{other_of, met_by, met_as, met_in, next_place}
use Rattle.conversion.specs.Steps.{goes_on, stops, step_by, step_over}
use Rattle.conversion.proofs.MetLaws.{moved-sparing}

-- with room for it, a moved record stands at the buffer's start
abbrev laid_freely : Got (List ℕ) → List ℕ → Written
laid_freely (refused r) buffer = written (fault r) 0 buffer
laid_freely (got t at) buffer = written fine (length t) (t ++ drop (length t) buffer)

laid-freely : (g : Got (List ℕ)) (buffer : List ℕ) → ((t : List ℕ) (m : ℕ) → g ≡ got t m → length t ≤ length buffer) →
    laid_move g buffer ≡ laid_freely g buffer
unfolding laid_scene
laid-freely (refused r) buffer room = refl
laid-freely (got t m) buffer room = rw (le-leb (length t) (length buffer) (room t m refl))

abbrev number_in : Fault → ℕ
number_in fine = 0
number_in (fault r) = r

-- nothing put behind the n bytes that stand
nothing_put : (n : ℕ) (out part : List ℕ) → n ≤ length out → part ≡ drop n out →
    put_mid n (length out - n) out part ≡ out
nothing_put n out part h e = put-in-part n [] out part h e ∙ rw (add-zero, append-nil) (take-append-drop n out)

module _ (to : Version) (s out : List ℕ) (p : Place) (q : Option PartCode)
    (there : part_of q ≡ part_in 0 (take (length s - p.used) (drop p.used s))) where
  by_part : step_over to s out p ≡ step_by out p (met_as to (drop p.used s) (part_of q))
  unfolding step_over met_in
  by_part = rw (there, rest_of p.used s)

  known : Lies 0 (drop p.used s) (part_of q)
  known = rw (there, rest_of p.used s) (lies 0 (drop p.used s))

  pub cut_step : q ≡ None → stops stage.Open out ≡ step_over to s out p
  cut_step e = sym (rw e at by_part)

  pub skip_step : (k : ℕ) → q ≡ Some (code.Skipped k) → stops stage.Open out ≡ step_over to s out p
  skip_step k e = sym (rw e at by_part)

  pub overlong-step : (n : ℕ) → q ≡ Some (code.Overlong n) → stops (stage.Refused 4) out ≡ step_over to s out p
  overlong-step n e = sym (rw e at by_part)

  module _ (k : ℕ) (e : q ≡ Some (code.Whole k)) where
    pub whole-fits : (2 ≤ k) × (k ≤ length s - p.used)
    whole-fits = rw length-drop at (hold-lies (rw e at known))

    module _ (room : 2 * (length s - p.used) ≤ length out - p.put) (fits : p.put ≤ length out) (f : Fault) (n : ℕ)
        (part : List ℕ)
        (w : written f n part
        ≡ moved_into (other_of to) to (take (p.used + k - p.used) (drop p.used s))
        (take (length out - p.put) (drop p.put out))) where
      abbrev moving : Got (List ℕ)
      moving = moved (other_of to) to (take k (drop p.used s))

      -- there is room for the moved record
      wide : (t : List ℕ) (m : ℕ) → moving ≡ got t m → length t ≤ length (drop p.put out)
      wide t m g =
          let size : length (take k (drop p.used s)) ≡ k =
          length-take-le k (drop p.used s) (rw length-drop whole-fits.1) in
          rw length-drop (omega (arith, moved-sparing to (take k (drop p.used s)) t m g, whole-fits.1))

      told : written f n part ≡ laid_freely moving (drop p.put out)
      unfolding moved_into
      told =
          let count : p.used + k - p.used ≡ k = omega arith in
          rw (count, rest_of p.put out) at w ∙ laid-freely moving (drop p.put out) wide

      stepped : step_over to s out p ≡ step_by out p (met_by k moving)
      stepped = rw e at by_part

      pub refused-step : (r : ℕ) → f ≡ fault r →
          stops (stage.Refused r) (put_mid p.put (length out - p.put) out part) ≡ step_over to s out p
      refused-step r is = go moving told ∙ sym stepped
        where
          go : (g : Got (List ℕ)) → written f n part ≡ laid_freely g (drop p.put out) →
              stops (stage.Refused r) (put_mid p.put (length out - p.put) out part) ≡ step_by out p (met_by k g)
          go (refused m) x =
              let number : r ≡ m = ap number_in (sym is ∙ ap (λ (y : Written). y.told) x) in
              rw (number, nothing_put p.put out part fits (ap (λ (y : Written). y.contents) x))
          go (got t m) x = absurd (no-fault r (sym (ap (λ (y : Written). y.told) x) ∙ is))

      module _ (is : f ≡ fine) where
        pub moved-fits : p.put + n ≤ length out
        moved-fits = go moving told wide
          where
            go : (g : Got (List ℕ)) → written f n part ≡ laid_freely g (drop p.put out) →
                ((t : List ℕ) (m : ℕ) → g ≡ got t m → length t ≤ length (drop p.put out)) → p.put + n ≤ length out
            go (refused m) x h = absurd (no-fault m (sym is ∙ ap (λ (y : Written). y.told) x))
            go (got t m) x h =
                omega (arith, ap (λ (y : Written). y.size) x, h t m refl, length-drop p.put out, fits)

        pub moved-step : (next : ℕ) → next ≡ next_place p.place →
            goes_on (record { used = p.used + k; put = p.put + n; place = next })
            (put_mid p.put (length out - p.put) out part) ≡ step_over to s out p
        moved-step next e = rw e (go moving told ∙ sym stepped)
          where
            go : (g : Got (List ℕ)) → written f n part ≡ laid_freely g (drop p.put out) →
                goes_on (record { used = p.used + k; put = p.put + n; place = next_place p.place })
                (put_mid p.put (length out - p.put) out part) ≡ step_by out p (met_by k g)
            go (refused m) x = absurd (no-fault m (sym is ∙ ap (λ (y : Written). y.told) x))
            go (got t m) x =
                rw (
                  put-in-part p.put t out part fits (ap (λ (y : Written). y.contents) x),
                  ap (λ (y : Written). y.size) x,
                )
