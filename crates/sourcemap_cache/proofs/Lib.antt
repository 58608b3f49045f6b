mod CompileLemmas
mod MeaningLemmas
mod PartsLemmas
mod ScopesLemmas
mod SoundLemmas
