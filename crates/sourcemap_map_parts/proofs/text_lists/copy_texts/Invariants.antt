use Rattle.std.proofs.Common.{◌≡◌, map, take, string_bytes}
use Rattle.sourcemap_texts.specs.Texts.{texts_of}
use Rattle.sourcemap_map_parts.proofs.text_lists.copy_texts.Given as goal

abbrev pub invariant-loop-text : goal.invariant-loop-text
invariant-loop-text l = texts_of l.copies ≡ map string_bytes (take l.text-index l.texts)
