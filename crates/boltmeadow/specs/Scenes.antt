-- Scene records answered, read and written, as a C caller is told. Definitions only. Assumes nothing.
use Rattle.std.specs.Prelude.{ℕ, List, replicate, Float, Option, Result, Ok, Err}
use Rattle.arithmetic.specs.Binary32.{0ᶠ}
use Rattle.admission.specs.Faults.{Fault, fine, fault}
use Rattle.admission.specs.declared.refusal.Refusal.{Refusal}
use Rattle.admission.specs.Refusals.{number_of}
use Rattle.common.specs.Vectors.{vec}
use Rattle.lines.specs.declared.Origin.{Origin}
use Rattle.pass_2d.specs.declared.Failure.{Failure}
use Rattle.plain_numbers.specs.Kinds.{failed_kind, failed_index, failed_cause}
use Rattle.dodgy_2d.specs.declared.Scene.{Scene}
use Rattle.dodgy_2d.specs.Outcomes.{SceneOutcome, outcome, refused_scene as refused_as}
use Rattle.dodgy_2d.specs.Read.{ToldAnswer, code_of}
use Rattle.scene_records.specs.declared.Cart.{Cart}
use Rattle.fields.specs.Got.{Got, refused, got}
use Rattle.scene_records.specs.Versions.{Numbered}
use Rattle.scene_writer.specs.Writing.{Written}
use Rattle.records.specs.Answered.{Solved}
use Rattle.index_building.specs.Indexes.{Standing, standing}
use Rattle.boltmeadow.specs.declared.scenes.BmAnswer.{BmAnswer}
use Rattle.boltmeadow.specs.declared.scenes.BmCart.{BmCart}
use Rattle.boltmeadow.specs.declared.scenes.BmScene.{BmScene}
use Rattle.boltmeadow.specs.declared.scenes.BmWritten.{BmWritten}
use Rattle.boltmeadow.specs.Layouts.{agent_at}

-- ---- a record's answer

-- the failed line and its origin by their plain numbers
unfoldable pub outcome_with : ℕ → Float → Float → Option Failure → ℕ → Origin → BmAnswer
outcome_with code x y f n o = record {
  refusal = 0;
  outcome = code;
  x = x;
  y = y;
  cause = failed_kind f;
  failed_line = failed_index f;
  cause_line = failed_cause f;
  origin_kind = o.kind;
  origin_place = o.place;
  origin_vertex = o.vertex;
  probes = n;
}

-- the number alone
unfoldable pub refused_scene : ℕ → BmAnswer
refused_scene number = record {
  refusal = number;
  outcome = 0;
  x = 0ᶠ;
  y = 0ᶠ;
  cause = 0;
  failed_line = 0;
  cause_line = 0;
  origin_kind = 0;
  origin_place = 0;
  origin_vertex = 0;
  probes = 0;
}

abbrev pub answer_told : Result ToldAnswer Refusal → BmAnswer
answer_told (Ok a) = outcome_with (code_of a.outcome) a.velocity.x a.velocity.y a.failed a.probes a.origin
answer_told (Err r) = refused_scene (number_of r)

-- its numbers alone: the refusal's, and the outcome's, 0 where there is none
pub record Numbers : Type 0 where
  pub refusal : ℕ
  pub outcome : ℕ

abbrev pub numbers_of : BmAnswer → Numbers
numbers_of a = record { refusal = a.refusal; outcome = a.outcome }

-- which are 01's own
abbrev pub numbers_told : SceneOutcome → Numbers
numbers_told (outcome code p f n) = record { refusal = 0; outcome = code }
numbers_told (refused_as r) = record { refusal = r; outcome = 0 }

-- beside what the buffer holds
abbrev pub answer_left : Solved → Standing BmAnswer
answer_left s = standing (answer_told s.told) s.contents

-- ---- a scene that was read

unfoldable pub cart_of : Scene → BmCart
cart_of s = record {
  position_x = s.agent.position.x;
  position_y = s.agent.position.y;
  velocity_x = s.agent.velocity.x;
  velocity_y = s.agent.velocity.y;
  margin = s.margin;
  horizon = s.horizon;
  wish_x = s.wish.x;
  wish_y = s.wish.y;
  limit = s.limit;
}

abbrev pub no_cart : BmCart
no_cart = record {
  position_x = 0ᶠ;
  position_y = 0ᶠ;
  velocity_x = 0ᶠ;
  velocity_y = 0ᶠ;
  margin = 0ᶠ;
  horizon = 0ᶠ;
  wish_x = 0ᶠ;
  wish_y = 0ᶠ;
  limit = 0ᶠ;
}

-- the number alone
unfoldable pub no_scene : ℕ → BmScene
no_scene number = record {
  refusal = number;
  cart = no_cart;
  obstacles = 0;
  kinds = replicate 16 0;
  counts = replicate 16 0;
  vertices = replicate 384 0ᶠ;
  neighbours = 0;
  lines = replicate 256 0ᶠ;
  numbers = replicate 64 0;
}

-- a scene and its neighbours' numbers
unfoldable pub scene_by : Scene → List ℕ → BmScene
scene_by s numbers = record {
  refusal = 0;
  cart = cart_of s;
  obstacles = s.obstacles;
  kinds = s.kinds;
  counts = s.counts;
  vertices = s.vertices;
  neighbours = s.neighbours;
  lines = s.lines;
  numbers = numbers;
}

abbrev pub scene_told : Got Numbered → BmScene
scene_told (got x at) = scene_by x.scene x.numbers
scene_told (refused r) = no_scene r

-- ---- a scene that is written

unfoldable pub cart_in : BmCart → Cart
cart_in c = record {
  agent = agent_at c.position_x c.position_y c.velocity_x c.velocity_y;
  margin = c.margin;
  horizon = c.horizon;
  wish = vec c.wish_x c.wish_y;
  limit = c.limit;
}

abbrev pub written : ℕ → ℕ → BmWritten
written number n = record { refusal = number; length = n }

unfoldable pub written_told : Result ℕ Refusal → BmWritten
written_told (Ok n) = written 0 n
written_told (Err r) = written (number_of r) 0

-- 0 for what is fine, else the number of the fault
abbrev pub number_told : Fault → ℕ
number_told fine = 0
number_told (fault n) = n

-- beside what the buffer holds
unfoldable pub written_left : Written → Standing BmWritten
written_left w = standing (written (number_told w.told) w.size) w.contents
