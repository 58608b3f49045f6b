-- If decoding a data URL returns an error, `EmbeddedAnswer` allows this error, or the error is `OutOfMemory`.
use Rattle.std.proofs.Common.{◌≡◌, true, rules}
use Rattle.sourcemap_references.specs.Resolution.{is_data_url}
use Rattle.sourcemap_index.proofs.EmbeddedLemmas.{error_embedded}
use Rattle.sourcemap_index.proofs.embedded.embedded_map.Goals as goal

pub returns-in-Err-clause-answer : goal.returns-in-Err-clause-answer
returns-in-Err-clause-answer c =
    let is : is_data_url c.args.url.now ≡ true = search rules in
    error_embedded c.args.url.now c.in-Err.error is c.in-Err.ensures.answer
