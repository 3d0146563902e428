-- No figure of a log of bytes overflows, and the places of numbers that no answer has stay 0. Assumes nothing.
use Rattle.std.proofs.Common.{◌≡◌, ℕ, ◌+◌, ◌*◌, ◌^◌, ◌<◌, ◌≤◌, Bool, false, ltb, List, [], ◌∷◌, length, get_or, sym, refl, ap, ◌∙◌, zero-add, arith, ne_eqb}
use Rattle.arithmetic.specs.Binary32.{when◌then◌else◌}
use Rattle.arithmetic.proofs.Choice.{if-all}
use Rattle.arithmetic.proofs.Lists.{All, none, more}
use Rattle.fields.specs.Bytes.{AllBytes}
use Rattle.answer_records.specs.Answers.{outcome_length, refusal_length}
use Rattle.answer_records.specs.Replies.{length_of_code}
use Rattle.answer_logs.specs.Logs.{Entry, outcome, refusal, Records, whole, refused_at, most_records, records_in}
use Rattle.answer_logs.specs.Parts.{Wholes, reached, stopped, wholes_from}
use Rattle.answer_logs.proofs.CutLaws.{ahead_all, closing, closed}
use Rattle.daily_tally.specs.Figures.{sum_of, one, count_of, is_outcome, is_refusal, probes_of, tally_of}
use Rattle.daily_tally.proofs.FigureLaws.{outcomes-are, refusals-are}
use Rattle.daily_tally.proofs.GoodLaws.{Good, good-outcome, good-refusal, good-small, GoodWholes, good-reached, good-stopped, good-wholes, bytes_small}

-- ---- the records of a log of bytes

data GoodRecords (most : ℕ) : Records → Type 0 where
  good-whole : {l : List Entry} → length l ≤ most → All Good l → GoodRecords most (whole l)
  good-refused : {n place : ℕ} → GoodRecords most (refused_at n place)

all_whole : (l : List Entry) → ahead_all l (whole []) ≡ whole l
all_whole [] = refl
all_whole (e ∷ l) = rw (all_whole l)

all-refused : (l : List Entry) (n place : ℕ) → ahead_all l (refused_at n place) ≡ refused_at n place
all-refused [] n place = refl
all-refused (e ∷ l) n place = rw (all-refused l n place)

good-closing : (most n place : ℕ) (w : Wholes) → GoodWholes most w → GoodRecords most (closing n place w)
good-closing most n place (reached l used) (good-reached h gs) =
    if-all (λ (end : Records). GoodRecords most (ahead_all l end)) (ltb used n)
    (rw (all-refused l 2 (place + length l)) good-refused) (rw (all_whole l) (good-whole h gs))
good-closing most n place (stopped m p) good-stopped = good-refused

-- so many at most, and each of them good
pub record Fits (most : ℕ) (l : List Entry) : Type 0 where
  pub few : length l ≤ most
  pub all-good : All Good l

fits-of : {most : ℕ} {l : List Entry} → GoodRecords most (whole l) → Fits most l
fits-of (good-whole h gs) = record { few = h; all-good = gs }

module _ (most : ℕ) (log : List ℕ) (bytes : AllBytes log) {l : List Entry} (e : records_in most log ≡ whole l) where
  pub fits-within : Fits most l
  unfolding records_in
  fits-within =
      let w = wholes_from most 0 log in
      fits-of (rw (sym (closed most 0 log)
      ∙ e) at (good-closing most (length log) 0 w (good-wholes most 0 log (bytes_small most 0 log bytes))))

-- ---- their sum

sum-most : (l : List Entry) → All Good l → sum_of probes_of l ≤ 4294967295 * length l
unfolding sum_of
sum-most [] none = omega arith
sum-most (e ∷ l) (more g gs) = omega (arith, good-small e g, sum-most l gs)

-- at most 2^32 - 1 records of at most 2^32 - 1 probes: their sum is below 2^64
pub tally-fits : (log : List ℕ) → AllBytes log → {l : List Entry} → records_in most_records log ≡ whole l →
    (tally_of l).probes < 2 ^ 64
unfolding tally_of
tally-fits log bytes {l} e = let f = fits-within most_records log bytes e in omega (arith, f.few, sum-most l f.all-good)

-- ---- numbers that no answer has

none_pass : (test : Entry → Bool) → ((e : Entry) → Good e → test e ≡ false) → (l : List Entry) → All Good l → count_of test l ≡ 0
unfolding count_of sum_of one when◌then◌else◌
none_pass test fails [] none = refl
none_pass test fails (e ∷ l) (more g gs) = rw (fails e g, zero-add) (none_pass test fails l gs)

module _ (most : ℕ) (log : List ℕ) (bytes : AllBytes log) {l : List Entry} (e : records_in most log ≡ whole l) where
  -- a code that is no outcome's, and a number that is no refusal's
  pub no-such-outcome : (code : ℕ) → code < 6 → (length_of_code code ≡ outcome_length → ⊥) → get_or (tally_of l).outcomes code 0 ≡ 0
  no-such-outcome code h other = outcomes-are l code h
      ∙ none_pass (is_outcome code) unlike l (fits-within most log bytes e).all-good
    where
      unlike : (x : Entry) → Good x → is_outcome code x ≡ false
      unlike (outcome a) (good-outcome p q) = ne_eqb a.code code (λ same. other (sym (ap length_of_code same) ∙ p))
      unlike (refusal n) g = refl

  pub no-such-refusal : (number : ℕ) → number < 16 → (length_of_code (128 + number) ≡ refusal_length → ⊥) →
      get_or (tally_of l).refusals number 0 ≡ 0
  no-such-refusal number h other = refusals-are l number h
      ∙ none_pass (is_refusal number) unlike l (fits-within most log bytes e).all-good
    where
      unlike : (x : Entry) → Good x → is_refusal number x ≡ false
      unlike (outcome a) g = refl
      unlike (refusal n) (good-refusal p) =
          ne_eqb n number (λ same. other (sym (ap (λ (k : ℕ). length_of_code (128 + k)) same) ∙ p))
