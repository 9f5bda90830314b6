pub mod AccessLemmas
