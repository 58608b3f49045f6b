pub mod ValueLemmas
