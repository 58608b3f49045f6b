-- The default options read no file, so the map alone determines the rewritten map.
use Rattle.std.proofs.Common.{ap, Ok, Err}
use Rattle.std.proofs.lemmas.Result.{err_from_is_err_and}
use Rattle.sourcemap.specs.AnyMap.{map_tree}
use Rattle.sourcemap.specs.Hermes.{hermes_value}
use Rattle.sourcemap.specs.Trees.{hermes}
use Rattle.sourcemap_index.proofs.FamilyLemmas.{hermes_tree}
use Rattle.sourcemap.specs.declared.types.DecodedMap.TheVariants.{Hermes}
use Rattle.sourcemap_cli.proofs.MapsLemmas.{hermes_by_default}
use Rattle.sourcemap_cli.proofs.ProgramLemmas.{no_memory, returns_rewritten}
use Rattle.sourcemap_cli.proofs.output.rewritten_hermes.Goals as goal

pub returns : goal.returns
returns g c =
    let old = hermes_value c.args.map in
    let new = c.in_ok-rewritten.rewritten in
    let is = hermes_by_default _ old (Ok new) c.default.ensures c.in_ok-rewritten.ensures.value in
    returns_rewritten (hermes old) (hermes (hermes_value new)) (map_tree (Hermes new)) c.json_line.result (ap hermes is)
    (hermes_tree new) c.json_line.ensures

pub returns-in_err-rewritten : goal.returns-in_err-rewritten
returns-in_err-rewritten g c =
    let p = err_from_is_err_and c.from_residual.result c.from_residual.ensures.1 in
    let is = hermes_by_default _ (hermes_value c.args.map) (Err _) c.default.ensures c.in_err-rewritten.ensures.value in
    rw (p.1, p.2) (no_memory _ _ is)
