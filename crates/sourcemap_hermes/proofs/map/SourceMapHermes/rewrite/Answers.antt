use Rattle.std.proofs.Common.{◌≤◌, ◌∙◌, ℕ, List, length, nat_eq, subst, sym, arith, ap}
use Rattle.std.specs.List.{IsDistinct}
use Rattle.sourcemap_map_rewrite.specs.Options.{removal_of}
use Rattle.sourcemap_hermes.specs.Map.{HermesValue, hermes_value}
use Rattle.sourcemap_hermes_scopes.specs.SourceScopes.{picked_scopes}
use Rattle.sourcemap_hermes.proofs.RewriteLemmas.{answer_well_formed, answer_keeps_scopes, few_ids}
use Rattle.sourcemap_hermes.proofs.map.SourceMapHermes.rewrite.Goals as goal

pub select-requires : goal.select-requires
select-requires g c =
    let h : HermesValue = hermes_value c.args.self in
    let few : length h.map.sources ≤ 4294967295 =
    omega (arith, c.get_source_count.ensures, c.get_source_count.type_inv) in
    subst (λ (ids : List ℕ). length ids ≤ 4294967295) (sym (c.as_slice.ensures.value ∙ c.in_ok-sm.ensures.ids))
    (few_ids (removal_of c.args.options.now) h few)

pub returns-clause-value : goal.returns-clause-value
returns-clause-value g c =
    let h : HermesValue = hermes_value c.args.self in
    let slice = c.as_slice.ensures.value in
    let select = c.in_ok-scopes.ensures.select (subst (IsDistinct nat_eq) (sym slice) c.in_ok-sm.ensures.distinct) in
    (c.in_ok-sm.ensures.value, select ∙ ap (picked_scopes h.scopes) (slice ∙ c.in_ok-sm.ensures.ids))

pub returns-clause-well_formed : goal.returns-clause-well_formed
returns-clause-well_formed g c well =
    let h : HermesValue = hermes_value c.args.self in
    let few : length h.map.sources ≤ 4294967295 =
    omega (arith, c.get_source_count.ensures, c.get_source_count.type_inv) in
    answer_well_formed c.args.options.now h _ few (returns-clause-value g c) well
    (c.in_ok-sm.ensures.well_formed well.map)

pub returns-clause-scopes : goal.returns-clause-scopes
returns-clause-scopes g c well distinct =
    let h : HermesValue = hermes_value c.args.self in
    let few : length h.map.sources ≤ 4294967295 =
    omega (arith, c.get_source_count.ensures, c.get_source_count.type_inv) in
    answer_keeps_scopes c.args.options.now h _ few (returns-clause-value g c) well distinct
