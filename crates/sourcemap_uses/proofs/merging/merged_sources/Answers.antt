-- Sources of both maps are added, then the map is built.
use Rattle.std.proofs.Common.{◌++◌, None}
use Rattle.std.proofs.lemmas.Result.{err_from_is_err_and}
use Rattle.sourcemap.specs.Builder.{built, empty_builder}
use Rattle.sourcemap.specs.Rewrite.{kept_once}
use Rattle.sourcemap.specs.Types.{resolved_sources}
use Rattle.sourcemap_uses.specs.Merging.{AreTooMany}
use Rattle.sourcemap_uses.proofs.RefusalLemmas.{due_refused, never_refused}
use Rattle.sourcemap_uses.proofs.MergingLemmas.{merged, rootless_sources_are, too_many_first, too_many_both}
use Rattle.sourcemap_uses.proofs.merging.merged_sources.Goals as goal

pub returns-clause-map : goal.returns-clause-map
returns-clause-map c =
    merged c.in_ok-builder.builder c.add_sources.new.builder c.add_sources-2.new.builder
    (resolved_sources c.args.first.now) (resolved_sources c.args.second.now) c.into_sourcemap.result
    c.in_ok-builder.ensures c.in_ok-add_sources.ensures.added c.in_ok-add_sources-2.ensures.added
    c.into_sourcemap.ensures.value

pub returns-clause-resolved : goal.returns-clause-resolved
returns-clause-resolved c = rootless_sources_are (kept_once (resolved_sources c.args.first.now
    ++ resolved_sources c.args.second.now)) c.into_sourcemap.result (returns-clause-map c)

pub returns-clause-error : goal.returns-clause-error
returns-clause-error c =
    never_refused (λ m. m) (built c.add_sources-2.new.builder) c.into_sourcemap.result
    (λ e. AreTooMany (kept_once
    (resolved_sources c.args.first.now ++ resolved_sources c.args.second.now)) e) c.into_sourcemap.ensures.value

pub returns-in_err-builder-clause-error : goal.returns-in_err-builder-clause-error
returns-in_err-builder-clause-error c =
    let e = c.in_err-builder.field-0.0 in
    let p = err_from_is_err_and c.from_residual.result c.from_residual.ensures.1 in
    rw (p.1, p.2) (due_refused (empty_builder None) e (AreTooMany
    (kept_once (resolved_sources c.args.first.now ++ resolved_sources c.args.second.now)) e) c.in_err-builder.ensures)

pub returns-in_err-add_sources-clause-error : goal.returns-in_err-add_sources-clause-error
returns-in_err-add_sources-clause-error c =
    let p =
    err_from_is_err_and c.from_residual-in_err-add_sources.result c.from_residual-in_err-add_sources.ensures.1 in
    rw (p.1, p.2) (too_many_first c.in_ok-builder.builder (resolved_sources c.args.first.now)
    (resolved_sources c.args.second.now) c.in_err-add_sources.field-0.0
    c.in_ok-builder.ensures c.in_err-add_sources.ensures.error)

pub returns-in_err-add_sources-2-clause-error : goal.returns-in_err-add_sources-2-clause-error
returns-in_err-add_sources-2-clause-error c =
    let p =
    err_from_is_err_and c.from_residual-in_err-add_sources-2.result c.from_residual-in_err-add_sources-2.ensures.1 in
    rw (p.1, p.2) (too_many_both c.in_ok-builder.builder c.add_sources.new.builder (resolved_sources c.args.first.now)
    (resolved_sources c.args.second.now) c.in_err-add_sources-2.field-0.0
    c.in_ok-builder.ensures c.in_ok-add_sources.ensures.added c.in_err-add_sources-2.ensures.error)
