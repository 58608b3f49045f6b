-- If the text has a reference, the answer of `map_of` for the first reference is the answer for the text.
use Rattle.sourcemap.specs.Reference.{first_reference}
use Rattle.sourcemap_uses.proofs.FindingLemmas.{by_reference}
use Rattle.sourcemap_uses.proofs.finding.find_map.Goals as goal

pub returns-in-Ok-Some : goal.returns-in-Ok-Some
returns-in-Ok-Some c =
    let due = rw c.in-Ok-Some.field-0-is at c.in-Ok-Some.ensures in
    by_reference
    (first_reference c.args.text.now) c.in-Ok-Some.reference due c.args.path.now c.map_of.result c.map_of.ensures
