-- Over admitted lines no solve is refused: how large each value of a solve is at most, in smallest values (arithmetic's
-- Magnitude/Size). SolveSizes says it of a pass over lines of a given size; Admitted, of what size admitted lines are;
-- TightDirections, that a tightened line has a direction; NeverRefused puts them together, and Told says what that
-- leaves of the refusal numbers.
pub mod SolveSizes
pub mod Admitted
pub mod TightDirections
pub mod NeverRefused
pub mod Told
