-- The laws of a scene's origins: as many walls as wall lines, each an edge of the scene; and what is known of the failed line's.
pub mod WallLaws
pub mod KnownLaws
