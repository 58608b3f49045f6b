-- If the reference embeds a map, the answer is this map. If the URL is no `data:` URL, `file_of` gives the answer.
use Rattle.std.proofs.Common.{refl, inl, Some}
use Rattle.sourcemap.specs.AnyMap.{map_tree}
use Rattle.sourcemap.specs.References.{url_of}
use Rattle.sourcemap_uses.proofs.FindingLemmas.{no_map_held}
use Rattle.sourcemap_uses.proofs.finding.map_of.Goals as goal

pub returns-in-Ok-Some : goal.returns-in-Ok-Some
returns-in-Ok-Some c =
    let due = rw c.in-Ok-Some.field-0-is at c.in-Ok-Some.ensures.answer in
    inl (Some (map_tree c.in-Ok-Some.map), due, refl)

pub returns-in-Ok-None : goal.returns-in-Ok-None
returns-in-Ok-None c =
    let due = rw c.in-Ok-None.field-0-is at c.in-Ok-None.ensures.answer in
    no_map_held (url_of c.args.reference.now) c.args.path.now due c.file_of.result c.file_of.ensures
