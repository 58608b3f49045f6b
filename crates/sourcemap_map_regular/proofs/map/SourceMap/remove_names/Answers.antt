-- A well-formed map is still well-formed after all its names are removed.
use Rattle.std.proofs.Common.{rules, sym, subst}
use Rattle.sourcemap_map_regular.specs.Map.{IsWellFormed}
use Rattle.sourcemap_map_regular.proofs.MapLemmas.{nameless-well}
use Rattle.sourcemap_map_regular.proofs.map.SourceMap.remove_names.Goals as goal

pub returns-clause-value : goal.returns-clause-value
returns-clause-value c = search rules

pub returns-clause-well_formed : goal.returns-clause-well_formed
returns-clause-well_formed c =
    λ well. subst IsWellFormed (sym (returns-clause-value c)) (nameless-well c.args.self.now well)
