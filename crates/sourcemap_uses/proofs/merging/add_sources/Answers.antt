-- The loop adds the resolved sources in order. If adding a source fails, only the sources before this source are added.
use Rattle.std.proofs.Common.{◌∙◌, ap}
use Rattle.std.proofs.lemmas.Result.{err_from_is_err_and}
use Rattle.sourcemap.specs.Iterators.{sources_left}
use Rattle.sourcemap.specs.Types.{resolved_sources}
use Rattle.sourcemap_uses.proofs.MergingLemmas.{none_added, one_added, whole_added, stopped_so, stopped_why}
use Rattle.sourcemap_uses.proofs.merging.add_sources.Goals as goal

pub loop-source-init : goal.loop-source-init
loop-source-init c =
    none_added c.args.builder.now (sources_left c.into_iter-source-iterator.result) (resolved_sources c.args.map.now)
    (ap sources_left c.into_iter-source-iterator.ensures.into_iter_gives ∙ c.sources-source-items.ensures.rest)

pub loop-source-preserved : goal.loop-source-preserved
loop-source-preserved c =
    one_added c.args.builder.now c.loop-source.builder c.add_source.new.self c.in-Some.source.now
    (sources_left c.loop-source.source-iterator) (sources_left c.next.new.self) (resolved_sources c.args.map.now)
    c.loop-source.invariant c.in-Some.ensures.steps c.in_ok-add_source.ensures.ok

pub returns-clause-added : goal.returns-clause-added
returns-clause-added c =
    whole_added c.args.builder.now c.loop-source.builder (sources_left c.loop-source.source-iterator)
    (resolved_sources c.args.map.now)
    c.loop-source.invariant c.in-None.ensures.steps.0

pub returns-in_err-add_source-clause-stopped : goal.returns-in_err-add_source-clause-stopped
returns-in_err-add_source-clause-stopped c =
    let p = err_from_is_err_and c.from_residual.result c.from_residual.ensures.1 in
    rw p.1 (stopped_so c.args.builder.now c.loop-source.builder c.add_source.new.self
    (sources_left c.loop-source.source-iterator)
    (resolved_sources c.args.map.now) c.loop-source.invariant c.in_err-add_source.ensures.err)

pub returns-in_err-add_source-clause-error : goal.returns-in_err-add_source-clause-error
returns-in_err-add_source-clause-error c =
    let p = err_from_is_err_and c.from_residual.result c.from_residual.ensures.1 in
    rw (p.1, p.2) (stopped_why c.args.builder.now c.loop-source.builder c.in-Some.source.now
    (sources_left c.loop-source.source-iterator) (sources_left c.next.new.self)
    (resolved_sources c.args.map.now) c.in_err-add_source.field-0.0
    c.loop-source.invariant c.in-Some.ensures.steps c.in_err-add_source.ensures.id)
