use Rattle.std.proofs.Common.{◌≡◌, ◌∙◌, ◌+◌, ◌-◌, ap, ap₂, subst, subst₂, None, Some, option_map, take, drop}
use Rattle.sourcemap_source_views.specs.Columns.{column_offset}
use Rattle.sourcemap_source_views.proofs.ColumnsLemmas.{slice-short, slice-there}
use Rattle.sourcemap_references.proofs.ReferenceLemmas.{range_from_start}
use Rattle.sourcemap_source_views.proofs.columns.slice_at.Goals as goal

pub returns-in_err-length : goal.returns-in_err-length
returns-in_err-length c =
    let line = c.args.line.now in
    let start = c.in_ok-start.start in
    let far : c.saturating_sub-end.result ≡ c.args.col + c.args.span - start.units =
    c.saturating_sub-end.ensures ∙ ap₂ (λ a b. a + b - start.units) c.from-2.ensures c.from-3.ensures in
    let short : None ≡ column_offset (drop start.offset line) (c.args.col + c.args.span - start.units) =
    subst₂ (λ text n. None ≡ column_offset text n) c.range_from-rest.ensures.value far c.in_err-length.ensures.value in
    let first : Some start.offset ≡ column_offset line c.args.col =
    subst (λ n. Some start.offset ≡ column_offset line n) c.from.ensures c.in_ok-start.ensures.value in
    ap (option_map (λ part. part.now)) c.from_residual-in_err-length.ensures
    ∙ slice-short line c.args.col c.args.span start.offset start.units c.utf8.line first
    c.in_ok-start.ensures.units short

pub returns : goal.returns
returns c =
    let line = c.args.line.now in
    let start = c.in_ok-start.start in
    let end = c.in_ok-length.field-0 in
    let far : c.saturating_sub-end.result ≡ c.args.col + c.args.span - start.units =
    c.saturating_sub-end.ensures ∙ ap₂ (λ a b. a + b - start.units) c.from-2.ensures c.from-3.ensures in
    let last : Some end.offset ≡ column_offset (drop start.offset line) (c.args.col + c.args.span - start.units) =
    subst₂ (λ text n. Some end.offset
    ≡ column_offset text n) c.range_from-rest.ensures.value far c.in_ok-length.ensures.value in
    let first : Some start.offset ≡ column_offset line c.args.col =
    subst (λ n. Some start.offset ≡ column_offset line n) c.from.ensures c.in_ok-start.ensures.value in
    ap Some (c.range.ensures.value ∙ range_from_start _ _ ∙ ap (take end.offset) c.range_from-rest.ensures.value)
    ∙ slice-there line c.args.col c.args.span start.offset start.units end.offset c.utf8.line first
    c.in_ok-start.ensures.units last
