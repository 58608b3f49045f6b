use Rattle.std.proofs.Common.{string_bytes}
use Rattle.sourcemap.specs.AnyMap.{map_tree}
use Rattle.sourcemap_index.proofs.WrittenValueLemmas.{whole_value}
use Rattle.sourcemap_cli.proofs.output.json_line.Goals as goal

pub returns : goal.returns
unfolding lib.Utf8.encode
returns c =
    let is = c.in_ok-value.ensures.written in
    let is_text = c.in_ok-text.ensures.text (whole_value (map_tree c.args.map) _ is) in
    (string_bytes c.in_ok-text.text, (_, is, is_text), c.in_ok-push.ensures.bytes)
