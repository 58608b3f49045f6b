-- The map of the tokens is well-formed. So the text of the map reads back, by the law `written_maps_read_back`.
use Rattle.std.proofs.Common.{◌∙◌, ap, map, string_bytes, [], ◌∷◌}
use Rattle.sourcemap_uses.proofs.BuildingLemmas.{made, reads_back}
use Rattle.sourcemap_uses.proofs.building.write_tokens.Goals as goal

pub returns-clause-reads_back : goal.returns-clause-reads_back
returns-clause-reads_back c =
    let m = c.in_ok-map.map in
    let text = c.in_ok-text.text.items in
    let names = ap (map string_bytes) c.new.ensures.items in
    let sources =
    ap (map string_bytes) c.in_ok-sources.ensures.items ∙ ap (λ text. text ∷ []) c.in_ok-from_str.ensures.ok in
    let is = made m c.args.tokens.items _ _ c.args.source.now c.in_ok-map.ensures.value names sources in
    let well = c.in_ok-map.ensures.well_formed (rw (c.in_ok-sources.ensures.len, c.new.ensures.len) c.requires) in
    reads_back m _ text is (c.regular_maps_are_of_a_kind.ensures.bytes text)
    (c.written_maps_read_back.ensures m text c.in_ok-text.ensures.text well)
