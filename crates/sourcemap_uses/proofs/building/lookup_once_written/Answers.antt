-- For the given generated position, the decoded map and the written map have the same original line and column, or both
-- have none.
use Rattle.std.proofs.Common.{◌∙◌, [], ◌∷◌, None}
use Rattle.std.proofs.lemmas.Result.{err_from_is_err_and}
use Rattle.sourcemap.specs.AnyMap.{map_tree}
use Rattle.sourcemap.specs.Types.{made_of}
use Rattle.sourcemap_uses.proofs.BuildingLemmas.{lookup_found, read_unless_memory}
use Rattle.sourcemap_uses.proofs.building.lookup_once_written.Goals as goal

pub returns-clause-position : goal.returns-clause-position
returns-clause-position c =
    c.lookup_source_position.ensures
    (c.well_formed_maps_are_in_order.ensures (map_tree c.in_ok-map.map) c.in_ok-map.ensures.well_formed)
    ∙ lookup_found c.as_slice.result.now _
    (made_of None c.args.tokens.items [] (c.args.source.now ∷ []) []) c.in_ok-map.map (c.args.line, c.args.col)
    c.as_slice.ensures.value c.in_ok-text.ensures.reads_back c.in_ok-map.ensures.only

pub returns-in_err-map-clause-memory : goal.returns-in_err-map-clause-memory
returns-in_err-map-clause-memory c =
    let p = err_from_is_err_and c.from_residual-in_err-map.result c.from_residual-in_err-map.ensures.1 in
    rw (p.1, p.2) (read_unless_memory c.as_slice.result.now _
    (made_of None c.args.tokens.items [] (c.args.source.now ∷ []) []) c.in_err-map.field-0.0
    c.as_slice.ensures.value c.in_ok-text.ensures.reads_back c.in_err-map.ensures.only)
