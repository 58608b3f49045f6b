use Rattle.std.proofs.Common.{◌∙◌, sym, subst, arith, IsUtf8}
use Rattle.std.proofs.lemmas.Str.{IsCharBoundary-from_drop}
use Rattle.sourcemap_source_views.proofs.RunsLemmas.{suffix_at}
use Rattle.sourcemap_source_views.proofs.js_identifiers.blank_length.Goals as goal

pub returns-clause-rest : goal.returns-clause-rest
returns-clause-rest c =
    let is = c.trim_start.ensures.value in
    suffix_at c.args.text.now c.trim_start.result.now is.0 is.1 is.4 ∙ c.trim_start.ensures.trim

pub returns-clause-boundary : goal.returns-clause-boundary
returns-clause-boundary c =
    let is = c.trim_start.ensures.value in
    IsCharBoundary-from_drop c.args.text.now _ (omega arith)
    (subst IsUtf8 (sym (suffix_at c.args.text.now c.trim_start.result.now is.0 is.1 is.4)) c.trim_start.utf8)
