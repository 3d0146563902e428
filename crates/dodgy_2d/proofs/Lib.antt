-- The laws of `dodgy_2d`: of obstacles judged in order, of the obstacles' lines joined, of the passes, of their lines'
-- origins, of what is told, and that two answers of one promise agree.
pub mod HeadsInOrder
pub mod EdgesJoined
pub mod ScenePasses
pub mod OriginsNoted
pub mod SceneTold
pub mod Agreement
