use Rattle.std.proofs.Common.{subst}
use Rattle.std.specs.Str.{IsCharBoundary}
use Rattle.sourcemap_texts.proofs.PathsLemmas.{IsCharBoundary-cut}
use Rattle.sourcemap_texts.proofs.paths.common_start.Goals as goal

pub range-requires-clause-end_boundary : goal.range-requires-clause-end_boundary
range-requires-clause-end_boundary c =
    subst (λ text. IsCharBoundary text c.common_parts_length.result) c.as_bytes.ensures.value
    (IsCharBoundary-cut c.as_bytes.result.now c.common_parts_length.result c.as_bytes.ensures.utf8
    c.common_parts_length.ensures.within c.common_parts_length.ensures.cut)
