use Rattle.std.proofs.Common.{◌≡◌, ◌∙◌, sym, arith, rules, length, vec_len}
use Rattle.std.proofs.lemmas.List.{length-map}
use Rattle.sourcemap_texts.specs.Texts.{contents_in, texts_of}
use Rattle.sourcemap_builder.proofs.BuilderLemmas.{nothing-changed}
use Rattle.sourcemap_builder.proofs.builder.apply_changes.Goals as goal

pub returns-clause-value : goal.returns-clause-value
returns-clause-value c =
    let gone : vec_len c.loop-text.changed ≡ 0 = search rules in
    let none : length (contents_in c.loop-text.changed) ≡ 0 =
    rw length-map (omega (arith, gone, c.loop-text.changed.ok.0)) in
    sym (nothing-changed (contents_in c.loop-text.changed) (texts_of c.loop-text.texts) none) ∙ c.loop-text.invariant.2
