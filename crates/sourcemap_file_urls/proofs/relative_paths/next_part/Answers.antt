use Rattle.std.proofs.Common.{rules, ◌∙◌, sym}
use Rattle.sourcemap_file_urls.proofs.RelativePathsLemmas.{parts-next}
use Rattle.sourcemap_file_urls.proofs.relative_paths.next_part.Goals as goal

pub returns-then-not-is_empty-clause-next : goal.returns-then-not-is_empty-clause-next
returns-then-not-is_empty-clause-next c =
    sym c.loop-rest.invariant.1
    ∙ parts-next c.loop-rest.rest.now c.split_first_part.result.0.now c.split_first_part.result.1.now
    c.split_first_part.ensures.before c.split_first_part.ensures.after (search rules)
