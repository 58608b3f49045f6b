use Rattle.std.proofs.Common.{arith, ◌∙◌, ap, string_bytes}
use Rattle.std.proofs.lemmas.List.{map-set, length-map}
use Rattle.sourcemap_texts.specs.Texts.{texts_of}
use Rattle.sourcemap_builder.specs.Builder.{with_changes}
use Rattle.sourcemap_builder.proofs.BuilderLemmas.{with_changes-last, with_changes-kept}
use Rattle.sourcemap_builder.proofs.builder.replace_text.Goals as goal

pub returns-in-Some-clause-value : goal.returns-in-Some-clause-value
returns-in-Some-clause-value c changes e =
    rw c.in-Some.is
    (ap (with_changes changes) (map-set string_bytes c.args.texts.now.items c.args.index c.in-Some.text)
    ∙ with_changes-last changes (texts_of c.args.texts.now) c.args.index (string_bytes c.in-Some.text) e
    (rw length-map (omega (arith, c.requires, c.args.texts.now.ok.0))))

pub returns-in-None-clause-value : goal.returns-in-None-clause-value
returns-in-None-clause-value c changes e = rw c.in-None.is (with_changes-kept changes (texts_of c.args.texts.now))
