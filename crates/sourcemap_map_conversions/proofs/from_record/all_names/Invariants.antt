use Rattle.std.proofs.Common.{◌≡◌, ◌++◌, map, reverse, vec_len}
use Rattle.serde_json.specs.View.{view}
use Rattle.sourcemap_texts.specs.Texts.{texts_of}
use Rattle.sourcemap_map_conversions.specs.FromRecord.{name_read}
use Rattle.sourcemap_map_conversions.proofs.from_record.all_names.Given as goal

abbrev pub invariant-loop-name : goal.invariant-loop-name
invariant-loop-name l =
    texts_of l.texts ++ map name_read (map view (reverse l.names.items))
    ≡ map name_read (map view l.fn.names.items)

abbrev pub decreases-loop-name : goal.decreases-loop-name
decreases-loop-name l = vec_len l.names
