use Rattle.std.proofs.Common.{[], refl, sym, arith}
use Rattle.std.proofs.lemmas.List.{length-map}
use Rattle.sourcemap_texts.specs.Texts.{texts_of}
use Rattle.sourcemap_map_parts.proofs.SourcesLemmas.{map-resolved_against_nothing}
use Rattle.sourcemap_map_parts.proofs.sources.Sources.new.Goals as goal

pub invariant_of-result : goal.invariant_of-result
invariant_of-result c = record {
  few = rw length-map (omega (arith, c.requires, c.args.texts.ok.0));
  resolved = sym (map-resolved_against_nothing [] (texts_of c.args.texts) refl);
}
