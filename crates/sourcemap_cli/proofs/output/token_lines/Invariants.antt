use Rattle.std.proofs.Common.{◌≡◌, ◌++◌, flat_map, string_bytes}
use Rattle.sourcemap.specs.Iterators.{tokens_left}
use Rattle.sourcemap.specs.Token.{tokens_from}
use Rattle.sourcemap_cli.specs.Program.{token_line}
use Rattle.sourcemap_cli.proofs.output.token_lines.Given as goal

-- the text so far and the lines of the remaining tokens are the whole text
abbrev pub invariant-loop-token : goal.invariant-loop-token
invariant-loop-token l =
    string_bytes l.text ++ flat_map token_line (tokens_left l.token-iterator)
    ≡ flat_map token_line (tokens_from l.map 0)
