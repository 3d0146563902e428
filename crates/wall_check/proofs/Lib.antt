-- The laws of `wall_check`: the crossed edges in order, moves that pass, what an answer says of the edges, how many
-- they can be, and cases that are computed.
pub mod CrossedInOrder
pub mod Accepted
pub mod CrossingLaws
pub mod FewCrossed
pub mod Computed
pub mod Agreement
