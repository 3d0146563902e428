-- Records of the set `common`, by the definitions of the crate `common`. Definitions only. Assumes nothing.
use Rattle.std.specs.Prelude.{ℕ, Bool, true, false, ◌&&◌, List, length, leb, Float, Option, Some, None}
use Rattle.common.specs.declared.Vec2.{Vec2}
use Rattle.common.specs.Meetings.{times_of}
use Rattle.common.specs.Vectors.{zero_vector, add_of, sub_of, neg_of, mul_of, div_of, dot_of, perp_of, length_squared_of, distance_squared_of, normalize_of, eq_of, determinant_of}
use Rattle.replay_records.specs.Answers.{number_at, vector_at, is_number, is_vector, is_flag}

-- whether the record's answers of the operators are those of the definitions: a + b, a - b, -a, a * k, a / k, a == b
unfoldable pub operators_agree : List ℕ → Vec2 → Vec2 → Float → Bool
operators_agree s a b k =
    is_vector s 24 (add_of a b)
    && is_vector s 32 (sub_of a b)
    && is_vector s 40 (neg_of a)
    && is_vector s 48 (mul_of a k)
    && is_vector s 56 (div_of a k)
    && is_flag s 92 (eq_of a b)

-- and those of the functions that have a name
unfoldable pub functions_agree : List ℕ → Vec2 → Vec2 → Bool
functions_agree s a b =
    is_number s 20 (determinant_of a b)
    && is_number s 64 (dot_of a b)
    && is_vector s 68 (perp_of a)
    && is_number s 76 (length_squared_of a)
    && is_number s 80 (distance_squared_of a b)
    && is_vector s 84 (normalize_of a)

-- and those of the two lines: a flag and the times, zeros where they are parallel
unfoldable pub is_times : List ℕ → Option Vec2 → Bool
is_times s (Some t) = is_flag s 112 true && is_vector s 116 t
is_times s None = is_flag s 112 false && is_vector s 116 zero_vector

-- whether the record is whole and all agree, with a, b and k at its start
unfoldable pub is_replayed : List ℕ → Bool
is_replayed s =
    leb 124 (length s)
    && (operators_agree s (vector_at s 0) (vector_at s 8) (number_at s 16)
    && functions_agree s (vector_at s 0) (vector_at s 8)
    && is_times s (times_of (vector_at s 0) (vector_at s 8) (vector_at s 96) (vector_at s 104)))
