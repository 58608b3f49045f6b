-- A well-formed map is still well-formed after `set_source`, whether `set_source` succeeds or fails.
use Rattle.std.proofs.Common.{rules, sym, subst}
use Rattle.sourcemap_map_regular.specs.Map.{IsWellFormed}
use Rattle.sourcemap_map_regular.proofs.MapLemmas.{well-set}
use Rattle.sourcemap_map_regular.proofs.map.SourceMap.set_source.Goals as goal

pub returns-clause-value : goal.returns-clause-value
returns-clause-value c = search rules

pub returns-clause-well_formed : goal.returns-clause-well_formed
returns-clause-well_formed c = λ well.
    subst IsWellFormed (sym (returns-clause-value c)) (well-set c.args.self.now c.args.id c.args.source.now well)
