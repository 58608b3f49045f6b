-- If the text has a reference, the path that it resolves to is the answer.
use Rattle.sourcemap_json.specs.Reference.{first_reference}
use Rattle.sourcemap_uses.proofs.RecordsLemmas.{by_reference}
use Rattle.sourcemap_uses.proofs.records.referenced_file.Goals as goal

pub returns-in-Ok-Some : goal.returns-in-Ok-Some
returns-in-Ok-Some c =
    let due = rw c.in-Ok-Some.field-0-is at c.in-Ok-Some.ensures in
    by_reference (first_reference c.args.text.now) c.in-Ok-Some.reference due c.args.path.now c.resolve_path.result
    c.resolve_path.ensures
