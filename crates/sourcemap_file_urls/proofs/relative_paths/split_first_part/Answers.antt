use Rattle.std.proofs.Common.{subst, ap, ◌∙◌}
use Rattle.std.specs.List.{position_or_len}
use Rattle.std.specs.Str.{IsUtf8}
use Rattle.sourcemap_file_urls.specs.RelativePaths.{is_separator}
use Rattle.sourcemap_file_urls.proofs.RelativePathsLemmas.{separator-first, boundary-before, boundary-after}
use Rattle.sourcemap_file_urls.proofs.relative_paths.split_first_part.Goals as goal

pub range-requires-clause-end_boundary : goal.range-requires-clause-end_boundary
range-requires-clause-end_boundary c =
    let at = c.first_separator-end.ensures ∙ ap (position_or_len is_separator) c.as_bytes.ensures.value in
    let first = separator-first c.args.path.now c.first_separator-end.result at c.if-end-path.false in
    boundary-before c.args.path.now c.first_separator-end.result first.0 first.1

pub range_from-requires : goal.range_from-requires
range_from-requires c =
    let at = c.first_separator-end.ensures ∙ ap (position_or_len is_separator) c.as_bytes.ensures.value in
    let first = separator-first c.args.path.now c.first_separator-end.result at c.if-end-path.false in
    λ l. boundary-after c.args.path.now c.first_separator-end.result
    (subst IsUtf8 c.as_bytes.ensures.value c.as_bytes.ensures.utf8) first.0 first.1
