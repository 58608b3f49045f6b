-- Equality of maps, part by part.
use Rattle.std.specs.Prelude.{Bool}
use Rattle.std.specs.Ordering.{on, eq_of_both}
use Rattle.std.specs.Cmp.{IsEquivalence}
use Rattle.std.specs.Cmp.Rules.{comparing}
use Rattle.std.specs.Cmp.Lexicographic.{pointwise}
use Rattle.std.proofs.Common.{rules}
use Rattle.sourcemap_line_index.specs.TokenList.{same_tokens}
use Rattle.sourcemap_map_parts.specs.Contents.{same_contents}
use Rattle.sourcemap_map_parts.specs.MapMetadata.{MetadataValue, same_metadata}
use Rattle.sourcemap_map_parts.specs.Sources.{SourcesValue, same_sources}
use Rattle.sourcemap_map_parts.specs.TextLists.{same_text}
use Rattle.sourcemap_map_regular.specs.Map.{MapValue}

abbrev pub metadata_of : MapValue → MetadataValue
metadata_of m = record { file = m.file; ignored = m.ignored; debug_id = m.debug_id }

abbrev pub sources_of : MapValue → SourcesValue
sources_of m = record { root = m.root; texts = m.sources }

abbrev pub same_map : MapValue → MapValue → Bool
same_map =
    eq_of_both (eq_of_both (eq_of_both (eq_of_both
    (on metadata_of same_metadata)
    (on (λ m. m.tokens) same_tokens))
    (on (λ m. m.names) (pointwise same_text)))
    (on sources_of same_sources))
    (on (λ m. m.contents) same_contents)

pub same_map_equiv : IsEquivalence same_map
same_map_equiv = search (comparing, rules) depth 16
