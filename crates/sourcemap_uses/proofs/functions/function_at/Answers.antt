-- If the bytes decode to a Hermes map, `name_at` determines the result. The only error of `name_at` is `OutOfMemory`.
use Rattle.std.proofs.Common.{Err, option_map, string_bytes}
use Rattle.std.proofs.lemmas.Result.{IfOk-weaker}
use Rattle.sourcemap.specs.Hermes.{hermes_value}
use Rattle.sourcemap.specs.HermesDecoder.{RecordDecodesAsHermes}
use Rattle.sourcemap.specs.Reading.{BytesHaveResult}
use Rattle.sourcemap_uses.specs.Functions.{IsNameAt, IsNameIn}
use Rattle.sourcemap_uses.proofs.RefusalLemmas.{memory_refused}
use Rattle.sourcemap_uses.proofs.functions.function_at.Goals as goal

pub returns-in-Ok-clause-name : goal.returns-in-Ok-clause-name
returns-in-Ok-clause-name c =
    let h = hermes_value c.in-Ok.map in
    IfOk-weaker c.name_at.result (λ name. IsNameIn h c.args.offset (option_map string_bytes name))
    (λ name. IsNameAt c.args.bytes.now c.args.offset (option_map string_bytes name))
    (λ name is. (h, c.in-Ok.ensures.answer, is)) c.name_at.ensures.name

pub returns-in-Ok-clause-error : goal.returns-in-Ok-clause-error
returns-in-Ok-clause-error c = memory_refused (λ e. BytesHaveResult RecordDecodesAsHermes c.args.bytes.now
    (Err e)) c.name_at.result c.name_at.ensures.memory
