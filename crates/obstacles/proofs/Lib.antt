-- The laws of `obstacles`: of vertices as numbers, of the closing pair, of an obstacle's faults, of the edges in order,
-- of numbers filled with lines, and that answers agree.
pub mod VertexNumbers
pub mod DoubledLaws
pub mod ObstacleFaults
pub mod EdgesInOrder
pub mod Filled
pub mod AnswerLaws
pub mod Agreement
pub mod Computed
