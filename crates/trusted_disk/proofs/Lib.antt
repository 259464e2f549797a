pub mod TrustingLemmas
