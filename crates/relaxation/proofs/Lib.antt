-- The laws of `relaxation`: of the tightened list, of the probes, and that its answers agree.
pub mod TightLaws
pub mod RelaxedProbes
pub mod CallLaws
pub mod Agreement
