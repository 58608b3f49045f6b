use Rattle.std.proofs.Common.{rules}
use Rattle.sourcemap_source_views.proofs.ColumnsLemmas.{offset-start}
use Rattle.sourcemap_check_texts.proofs.shifts.Landmark.stands.Goals as goal

pub stands_at-requires : goal.stands_at-requires
stands_at-requires c = offset-start c.in-Some.line.now (search rules)
