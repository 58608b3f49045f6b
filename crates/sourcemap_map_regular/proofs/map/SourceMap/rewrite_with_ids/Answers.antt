use Rattle.std.proofs.Common.{◌≤◌, length, map, nat_eq, sym, subst, arith}
use Rattle.std.specs.List.{IsDistinct}
use Rattle.sourcemap_map_rewrite.proofs.FirstIdsLemmas.{firsts-distinct}
use Rattle.sourcemap_map_regular.specs.Map.{MapValue, resolved_sources}
use Rattle.sourcemap_map_regular.specs.Rewrite.{removal_of}
use Rattle.sourcemap_map_regular.proofs.RewriteMeaning.{result_means_less, result_reduced, result_well_formed}
use Rattle.sourcemap_map_regular.proofs.RewriteMeaning.{means_the_same}
use Rattle.sourcemap_map_regular.proofs.map.SourceMap.rewrite_with_ids.Goals as goal

pub returns-clause-distinct : goal.returns-clause-distinct
returns-clause-distinct g c =
    subst (IsDistinct nat_eq) (sym c.in_ok-new.ensures.ids)
    (firsts-distinct (resolved_sources c.args.self) (map (λ t. t.src_id) c.args.self.tokens))

pub returns-clause-meaning : goal.returns-clause-meaning
returns-clause-meaning g c =
    let few_sources : length c.self.inside.sources.texts ≤ 4294967295 = omega (arith, c.len.ensures) in
    result_means_less c.args.options.now c.args.self c.in_ok-new.new.0
    (subst (λ (m : MapValue). length m.sources ≤ 4294967295) c.self.view_is few_sources)
    (subst (λ (m : MapValue). length m.names ≤ 4294967295) c.self.view_is c.self.invariant) c.in_ok-new.ensures.value

pub returns-clause-tokens : goal.returns-clause-tokens
returns-clause-tokens g c =
    let few_sources : length c.self.inside.sources.texts ≤ 4294967295 = omega (arith, c.len.ensures) in
    result_reduced c.args.options.now c.args.self c.in_ok-new.new.0
    (subst (λ (m : MapValue). length m.sources ≤ 4294967295) c.self.view_is few_sources)
    (subst (λ (m : MapValue). length m.names ≤ 4294967295) c.self.view_is c.self.invariant) c.in_ok-new.ensures.value

pub returns-clause-same : goal.returns-clause-same
returns-clause-same g c leaves =
    means_the_same c.args.self c.in_ok-new.new.0 (removal_of c.args.options.now) leaves (returns-clause-meaning g c)

pub returns-clause-well_formed : goal.returns-clause-well_formed
returns-clause-well_formed g c well =
    let few_sources : length c.self.inside.sources.texts ≤ 4294967295 = omega (arith, c.len.ensures) in
    result_well_formed c.args.options.now c.args.self c.in_ok-new.new.0
    (subst (λ (m : MapValue). length m.sources ≤ 4294967295) c.self.view_is few_sources)
    (subst
    (λ (m : MapValue). length m.names ≤ 4294967295) c.self.view_is c.self.invariant) c.in_ok-new.ensures.value well
