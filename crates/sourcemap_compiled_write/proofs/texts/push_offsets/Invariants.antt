use Rattle.std.proofs.Common.{◌≡◌, ◌+◌, ◌++◌, length, map, take}
use Rattle.std.specs.List.{flat_map}
use Rattle.byteorder.specs.Endian.{little_bytes}
use Rattle.sourcemap_compiled_write.specs.TextValues.{text_value}
use Rattle.sourcemap_compiled_write.specs.Texts.{text_offsets, texts_bytes}
use Rattle.sourcemap_compiled_write.proofs.texts.push_offsets.Given as goal

abbrev pub invariant-loop-text : goal.invariant-loop-text
invariant-loop-text l = record {
  at : l.at ≡ l.initial.at + length (texts_bytes (map text_value (take l.text-index l.texts)));
  table : l.out.items ≡ l.initial.out.items
      ++ flat_map (little_bytes 4) (text_offsets l.initial.at (map text_value (take l.text-index l.texts)));
}
