-- 01's bench cases as one table.
pub mod Table
