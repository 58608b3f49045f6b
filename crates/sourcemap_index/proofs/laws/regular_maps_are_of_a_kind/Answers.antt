use Rattle.sourcemap_map_regular.specs.Decode.{RegularDecodes}
use Rattle.sourcemap_index_model.specs.MapTree.{regular}
use Rattle.sourcemap_index.proofs.KindLemmas.{any_of_regular, regular_of_any, values_of, bytes_of, urls_of}
use Rattle.sourcemap_index.proofs.laws.regular_maps_are_of_a_kind.Goals as goal

pub returns : goal.returns
returns c = record {
  values = values_of regular RegularDecodes any_of_regular regular_of_any;
  bytes = bytes_of regular RegularDecodes any_of_regular regular_of_any;
  urls = urls_of regular RegularDecodes any_of_regular regular_of_any;
}
