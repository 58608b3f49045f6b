use Rattle.std.proofs.Common.{rules}
use Rattle.sourcemap_check_links.proofs.LinkLemmas.{mark_boundary}
use Rattle.sourcemap_check_links.proofs.links.id_text_on.Goals as goal

pub range_from-requires : goal.range_from-requires
range_from-requires c = λ _. mark_boundary c.args.line.now (search rules) c.utf8.line
