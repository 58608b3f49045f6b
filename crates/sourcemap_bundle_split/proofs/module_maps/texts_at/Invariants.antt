use Rattle.std.proofs.Common.{◌≡◌, map, take, string_bytes}
use Rattle.sourcemap_texts.specs.Texts.{texts_of}
use Rattle.sourcemap_bundle_split.specs.ModuleMap.{texts_at}
use Rattle.sourcemap_bundle_split.proofs.module_maps.texts_at.Given as goal

abbrev pub invariant-loop-id : goal.invariant-loop-id
invariant-loop-id l = texts_of l.copies ≡ texts_at (map string_bytes l.texts) (take l.id-index l.ids)
