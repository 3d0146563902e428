-- The laws of `common`: how large vectors and what is worked out of them can be.
pub mod VectorSizes
pub mod NormalizedSize
