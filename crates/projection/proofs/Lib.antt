pub mod ProjectionLemmas
