use Rattle.std.proofs.Common.{string_bytes}
use Rattle.std.proofs.lemmas.List.{map-set}
use Rattle.sourcemap_map_parts.proofs.sources.put_text.Goals as goal

pub returns : goal.returns
returns c = map-set string_bytes c.args.texts.now.items c.args.id c.args.text
