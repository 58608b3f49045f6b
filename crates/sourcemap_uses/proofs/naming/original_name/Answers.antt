-- `original_name` returns what `function_name` returns for the decoded map.
use Rattle.std.proofs.Common.{◌≡◌, Err, option_map, string_bytes}
use Rattle.std.proofs.lemmas.Result.{IfOk-weaker}
use Rattle.sourcemap.specs.Reading.{BytesHaveResult, RegularDecodes}
use Rattle.sourcemap.specs.TokenWalk.{function_name}
use Rattle.sourcemap_uses.specs.Naming.{IsNameOf}
use Rattle.sourcemap_uses.proofs.RefusalLemmas.{memory_refused}
use Rattle.sourcemap_uses.proofs.naming.original_name.Goals as goal

pub returns-in-Ok-clause-name : goal.returns-in-Ok-clause-name
returns-in-Ok-clause-name c =
    IfOk-weaker c.name_in.result
    (λ name. option_map string_bytes name
    ≡ function_name c.in-Ok.map c.args.text.now c.args.minified.now (c.args.line, c.args.col))
    (λ name. IsNameOf c.args.map.now c.args.text.now (
      c.args.line,
      c.args.col,
    ) c.args.minified.now (option_map string_bytes name))
    (λ name is. (c.in-Ok.map, c.in-Ok.ensures.answer, is)) c.name_in.ensures.name

pub returns-in-Ok-clause-error : goal.returns-in-Ok-clause-error
returns-in-Ok-clause-error c = memory_refused (λ e. BytesHaveResult RegularDecodes c.args.map.now
    (Err e)) c.name_in.result c.name_in.ensures.memory
