-- The definitions of demand 3 and of origins, which laws cite: batches, the calls of a session, how it stands after
-- each, lines that do not matter, and a wall changed by its name.
pub mod Cuts
pub mod Histories
pub mod Demand3
pub mod Alike
pub mod MetLines
pub mod Walls
