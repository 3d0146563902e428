-- Small logs tallied by the definition, at 02's limit and at the limit 1. Assumes nothing.
use Rattle.std.proofs.Common.{◌≡◌, [], ◌∷◌, ◌++◌, refl}
use Rattle.answer_logs.specs.Logs.{most_records, records_in}
use Rattle.answer_logs.proofs.Worked.{computed, refused_scene, an_answer}
use Rattle.daily_tally.specs.Figures as walked
use Rattle.daily_tally.specs.Figures.{sum_of, largest_of, one, count_of, below, tally_of, tallied}

unfoldable figures : Unit {0}
unfolding computed tallied tally_of below count_of sum_of largest_of one
figures = tt

-- with nothing to count, every figure is 0
empty-log : tallied (records_in most_records []) ≡ record {
  walked = walked.to-end;
  tally = record {
    outcomes = 0 ∷ 0 ∷ 0 ∷ 0 ∷ 0 ∷ 0 ∷ [];
    refusals = 0 ∷ 0 ∷ 0 ∷ 0 ∷ 0 ∷ 0 ∷ 0 ∷ 0 ∷ 0 ∷ 0 ∷ 0 ∷ 0 ∷ 0 ∷ 0 ∷ 0 ∷ 0 ∷ [];
    probes = 0;
    largest = 0;
    failed = 0;
  };
}
unfolding figures
empty-log = refl

two_records : tallied (records_in most_records (an_answer ++ refused_scene)) ≡ record {
  walked = walked.to-end;
  tally = record {
    outcomes = 0 ∷ 1 ∷ 0 ∷ 0 ∷ 0 ∷ 0 ∷ [];
    refusals = 0 ∷ 0 ∷ 0 ∷ 0 ∷ 0 ∷ 0 ∷ 1 ∷ 0 ∷ 0 ∷ 0 ∷ 0 ∷ 0 ∷ 0 ∷ 0 ∷ 0 ∷ 0 ∷ [];
    probes = 1;
    largest = 1;
    failed = 0;
  };
}
unfolding figures
two_records = refl

-- a line that failed is counted whatever the outcome
answer-with-line : tallied (records_in most_records (0 ∷ 16 ∷ 1 ∷ 1 ∷ 0 ∷ 0 ∷ 0 ∷ 0 ∷ 0 ∷ 0 ∷ 0 ∷ 0 ∷ 0 ∷ 3 ∷ 0 ∷ 0 ∷ 0
    ∷ 9 ∷ [])) ≡ record {
      walked = walked.to-end;
      tally = record {
        outcomes = 0 ∷ 1 ∷ 0 ∷ 0 ∷ 0 ∷ 0 ∷ [];
        refusals = 0 ∷ 0 ∷ 0 ∷ 0 ∷ 0 ∷ 0 ∷ 0 ∷ 0 ∷ 0 ∷ 0 ∷ 0 ∷ 0 ∷ 0 ∷ 0 ∷ 0 ∷ 0 ∷ [];
        probes = 9;
        largest = 9;
        failed = 1;
      };
    }
unfolding figures
answer-with-line = refl

-- no figure is told beside a refusal, and its place is the record's; at the limit 1 the second record is refused with 4
bad-second : tallied (records_in most_records (an_answer ++ (0 ∷ 2 ∷ 2 ∷ 129 ∷ [])))
    ≡ record { walked = walked.stopped 1 1; tally = tally_of [] }
unfolding figures
bad-second = refl

one-too-many : tallied (records_in 1 (an_answer ++ refused_scene)) ≡ record { walked = walked.stopped 4 1; tally = tally_of [] }
unfolding figures
one-too-many = refl
