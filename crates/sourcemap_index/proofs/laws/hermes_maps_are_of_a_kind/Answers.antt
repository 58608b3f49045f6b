use Rattle.sourcemap_hermes.specs.Decode.{RecordDecodesAsHermes}
use Rattle.sourcemap_index_model.specs.MapTree.{hermes}
use Rattle.sourcemap_index.proofs.KindLemmas.{any_of_hermes, hermes_of_any, values_of, bytes_of, urls_of}
use Rattle.sourcemap_index.proofs.laws.hermes_maps_are_of_a_kind.Goals as goal

pub returns : goal.returns
returns c = record {
  values = values_of hermes RecordDecodesAsHermes any_of_hermes hermes_of_any;
  bytes = bytes_of hermes RecordDecodesAsHermes any_of_hermes hermes_of_any;
  urls = urls_of hermes RecordDecodesAsHermes any_of_hermes hermes_of_any;
}
