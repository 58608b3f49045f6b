-- The result is the adjusted map, the error of `adjust_mappings`, or `IncompatibleSourceMap` if a map is not regular.
use Rattle.std.proofs.Common.{Ok, Err}
use Rattle.std.proofs.lemmas.Result.{err_from_is_err_and}
use Rattle.sourcemap.specs.AnyMap.{map_tree}
use Rattle.sourcemap_cli.proofs.MapsLemmas.{adjusted_trees, refused_adjustment}
use Rattle.sourcemap_cli.proofs.maps.adjust.Goals as goal

pub returns-in_err-adjustment : goal.returns-in_err-adjustment
returns-in_err-adjustment c =
    let r = c.from_residual-in_err-adjustment in
    let p = err_from_is_err_and r.result r.ensures.1 in
    rw (p.1, p.2) (refused_adjustment (map_tree c.args.map) (map_tree c.args.adjustment.now) c.in_ok-map.map _
    c.in_ok-map.ensures c.in_err-adjustment.ensures)

pub returns-in_err-adjust_mappings : goal.returns-in_err-adjust_mappings
returns-in_err-adjust_mappings c =
    let r = c.from_residual-in_err-adjust_mappings in
    let p = err_from_is_err_and r.result r.ensures.1 in
    rw (p.1, p.2)
    (adjusted_trees (map_tree c.args.map) (map_tree c.args.adjustment.now) c.in_ok-map.map
    c.in_ok-adjustment.adjustment.now (Err _)
    c.in_ok-map.ensures c.in_ok-adjustment.ensures c.in_err-adjust_mappings.ensures.value)

pub returns : goal.returns
returns c =
    adjusted_trees (map_tree c.args.map) (map_tree c.args.adjustment.now) c.in_ok-map.map
    c.in_ok-adjustment.adjustment.now (Ok c.adjust_mappings.new.self)
    c.in_ok-map.ensures c.in_ok-adjustment.ensures c.in_ok-adjust_mappings.ensures.value
