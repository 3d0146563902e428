-- The laws of `held_sessions`: of arrays that are filled place by place, of what a call leaves and the next one finds,
-- and that any two outcomes agree.
pub mod Agreement
pub mod FillLaws
pub mod HeldLaws
