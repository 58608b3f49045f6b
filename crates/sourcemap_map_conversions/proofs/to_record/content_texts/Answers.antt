use Rattle.std.proofs.Common.{Ok, map, option_map, string_bytes, ap, sym, ◌∙◌}
use Rattle.sourcemap_map_parts.proofs.FittingLemmas.{map-fitted}
use Rattle.sourcemap_map_conversions.proofs.to_record.content_texts.Goals as goal

pub returns : goal.returns
returns c =
    ap Ok (sym (ap (map (option_map string_bytes)) c.in_ok-fit.ensures.ok
    ∙ map-fitted string_bytes c.args.count c.args.contents.items))
