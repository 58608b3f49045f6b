use Rattle.std.specs.Str.Iter.{char_indices_rest, char_indices_offset}
use Rattle.sourcemap_source_views.specs.Identifiers.{is_part}
use Rattle.sourcemap_source_views.proofs.IdentifiersLemmas.{Passed}
use Rattle.sourcemap_source_views.proofs.js_identifiers.parts_length.Given as goal

abbrev pub invariant-loop-offset : goal.invariant-loop-offset
invariant-loop-offset l =
    Passed is_part l.text (char_indices_rest l.offset-iterator) (char_indices_offset l.offset-iterator)
