use Rattle.std.proofs.Common.{◌≡◌, ◌+◌, length, map, min, take}
use Rattle.sourcemap_compiled_write.specs.TextValues.{text_value}
use Rattle.sourcemap_compiled_write.specs.Texts.{texts_bytes}
use Rattle.sourcemap_compiled_write.proofs.texts.add_sizes.Given as goal

abbrev pub invariant-loop-text : goal.invariant-loop-text
invariant-loop-text l =
    l.size ≡ min (l.initial.size + length (texts_bytes (map text_value
    (take l.text-index l.texts)))) 18446744073709551615
