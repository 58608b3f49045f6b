-- The map is compiled, or its bytes do not decode.
use Rattle.sourcemap.specs.AnyMap.{map_tree}
use Rattle.sourcemap_cache.specs.Compile.{bytes_in}
use Rattle.sourcemap_cli.proofs.ProgramLemmas.{reply_of_compilation, reply_of_no_map}
use Rattle.sourcemap_cli.proofs.program.compile_reply.Goals as goal

pub returns-in-Ok : goal.returns-in-Ok
returns-in-Ok c = λ file.
    reply_of_compilation c.args.contents c.args.bytes.items file (map_tree c.in-Ok.map) (bytes_in c.compile.result)
    c.reply_to_compilation.result c.in-Ok.ensures.answer c.compile.ensures.answer c.reply_to_compilation.ensures

pub returns-in-Err : goal.returns-in-Err
returns-in-Err c = λ file.
    reply_of_no_map c.args.contents c.args.bytes.items file _ c.into_reply.result c.in-Err.ensures.answer
    c.into_reply.ensures
