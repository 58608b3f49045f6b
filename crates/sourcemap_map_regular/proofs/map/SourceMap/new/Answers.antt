-- If the given tokens satisfy `AllWithin`, the sorted tokens also satisfy `AllWithin`, so a returned map is
-- well-formed.
use Rattle.std.proofs.Common.{rules, Ok, unwrap_or, option_map, []}
use Rattle.std.specs.Option.{option_copied}
use Rattle.sourcemap_texts.specs.Texts.{texts_of, contents_in}
use Rattle.sourcemap_map_regular.specs.Map.{made_of}
use Rattle.sourcemap_map_regular.proofs.MapLemmas.{given-well, made-well}
use Rattle.sourcemap_map_regular.proofs.map.SourceMap.new.Goals as goal

pub returns-clause-value : goal.returns-clause-value
returns-clause-value c = search rules

pub returns-clause-well_formed : goal.returns-clause-well_formed
returns-clause-well_formed c = λ within.
    let made = made_of (option_copied c.args.file) c.args.tokens.items (texts_of c.args.names) (texts_of c.args.sources)
    (unwrap_or (option_map contents_in c.args.sources_content) []) in
    given-well (Ok c.of_parts.result) made (returns-clause-value c)
    (made-well c.args.tokens.items c.args.names c.args.sources within)
