-- The result is the text of the token that `lookup_token` returns, or `none`, and a newline.
use Rattle.sourcemap.specs.AnyMap.{map_tree}
use Rattle.sourcemap.specs.Token.{token_value}
use Rattle.sourcemap_cli.proofs.ProgramLemmas.{returns_looked_up}
use Rattle.sourcemap_cli.proofs.output.lookup_line.Goals as goal

pub returns : goal.returns
returns c =
    returns_looked_up token_value c.args.counting c.args.line c.args.col (map_tree c.args.map.now) c.lookup_token.result
    c.found_line.result c.found_line.ensures c.lookup_token.ensures.value
