use Rattle.std.proofs.Common.{◌≡◌, drop, [], true, arith}
use Rattle.std.proofs.lemmas.List.{drop_all}
use Rattle.json.specs.Lex.{may_close}
use Rattle.sourcemap_json_read.specs.Cursor.{grammar_state, tokens_from}
use Rattle.sourcemap_json_read.proofs.Lexemes.{ends}
use Rattle.sourcemap_json_read.proofs.cursor.read_end_step.Goals as goal

pub returns-then-may_close-clause-is_step : goal.returns-then-may_close-clause-is_step
returns-then-may_close-clause-is_step c =
    let d = c.args.text.now in
    let position = c.args.position in
    let may : may_close (grammar_state position.state) ≡ true = cc in
    let none : tokens_from d position ≡ [] =
    ends (grammar_state position.state) (drop position.at d) (drop_all position.at d (omega arith)) may in
    λ keeps. (none, none, drop_all position.at d (omega arith))
