-- The error for a record with `x_facebook_sources` is the error of `decode_hermes`. The error for any other record is
-- the error of `decode_regular`.
use Rattle.std.proofs.Common.{◌∙◌, sym}
use Rattle.std.proofs.lemmas.Result.{err_from_is_err_and}
use Rattle.sourcemap_records.specs.Jsontypes.{flat, tree}
use Rattle.sourcemap_index.proofs.DecodeIndexLemmas.{hermes_refused, regular_refused, scopes_there}
use Rattle.sourcemap_index.proofs.decode_index.decode_leaf.Goals as goal

pub returns-in_err-map : goal.returns-in_err-map
returns-in_err-map c =
    let p = err_from_is_err_and c.from_residual.result c.from_residual.ensures.1 in
    rw (p.1, p.2)
    (hermes_refused (flat (tree c.args.raw)) c.in_err-map.field-0.0
    (scopes_there c.args.raw ∙ sym c.is_some.ensures ∙ c.if-is_some.true) c.in_err-map.ensures.answer)

pub returns-in_err-map-2 : goal.returns-in_err-map-2
returns-in_err-map-2 c =
    let p = err_from_is_err_and c.from_residual-in_err-map-2.result c.from_residual-in_err-map-2.ensures.1 in
    rw (p.1, p.2)
    (regular_refused (flat (tree c.args.raw)) c.in_err-map-2.field-0.0
    (scopes_there c.args.raw ∙ sym c.is_some.ensures ∙ c.if-is_some.false) c.in_err-map-2.ensures.answer)
