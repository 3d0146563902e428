-- "A refusal returns its number and nothing else": beside each refusal's number all else is 0, where that is not to be
-- seen in the definition. Assumes nothing.
use Prim.Native.Nat.{ℕ}
use mathlib.Core.Path.{◌≡◌, refl}
use lib.ListN.{replicate}
use Rattle.arithmetic.specs.Binary32.{0ᶠ}
use Rattle.admission.specs.declared.refusal.Refusal.{Refusal}
use Rattle.admission.specs.Refusals.{number_of}
use Rattle.admission.proofs.FaultLaws.{refusal-back}
use Rattle.obstacles.specs.Obstacles as obstacle
use Rattle.obstacles.specs.Read.{blank_numbers, answer_as}
use Rattle.fields.specs.Got.{refused}
use Rattle.answer_logs.specs.Logs.{refused_at}
use Rattle.daily_tally.specs.Figures.{sum_of, largest_of, one, count_of, below, tally_of, tallied}
use Rattle.boltmeadow.specs.Layouts.{no_obstacle, lines_told, obstacle_told}
use Rattle.boltmeadow.specs.Scenes.{no_cart, no_scene, scene_told}
use Rattle.boltmeadow.specs.Logs.{page, tally_told}

pub no-scene : (r : ℕ) → scene_told (refused r) ≡ record {
  refusal = r;
  cart = no_cart;
  obstacles = 0;
  kinds = replicate 16 0;
  counts = replicate 16 0;
  vertices = replicate 384 0ᶠ;
  neighbours = 0;
  lines = replicate 256 0ᶠ;
  numbers = replicate 64 0;
}
unfolding no_scene
no-scene r = refl

pub no_lines : (r : ℕ) → obstacle_told (obstacle.refused r) ≡ record { refusal = r; count = 0; lines = replicate 256 0ᶠ }
unfolding no_obstacle blank_numbers
no_lines r = refl

-- which is what is told of each refusal of the code's
pub refused-lines : (r : Refusal) → lines_told (answer_as (obstacle.refused (number_of r))) ≡ no_obstacle (number_of r)
refused-lines r = rw (refusal-back r)

pub no-figures : (r place : ℕ) → tally_told (tallied (refused_at r place)) ≡ record {
  refusal = r;
  place = place;
  outcomes = replicate 6 0;
  refusals = replicate 16 0;
  probes = 0;
  largest = 0;
  failed = 0;
}
unfolding page tallied tally_of below count_of sum_of largest_of one
no-figures r place = refl
