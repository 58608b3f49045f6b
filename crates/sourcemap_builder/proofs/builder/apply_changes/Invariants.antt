use Rattle.std.proofs.Common.{◌≡◌, ◌≤◌, vec_len}
use Rattle.sourcemap_texts.specs.Texts.{contents_in, texts_of}
use Rattle.sourcemap_builder.specs.Builder.{with_changes}
use Rattle.sourcemap_builder.proofs.builder.apply_changes.Given as goal

abbrev pub invariant-loop-text : goal.invariant-loop-text
invariant-loop-text l =
    (vec_len l.changed ≤ vec_len l.texts)
    × (vec_len l.texts ≡ vec_len l.initial.texts)
    × (with_changes (contents_in l.changed) (texts_of l.texts)
    ≡ with_changes (contents_in l.initial.changed) (texts_of l.initial.texts))

abbrev pub decreases-loop-text : goal.decreases-loop-text
decreases-loop-text l = vec_len l.changed
