-- If `write_map` returns an error, the reason is one of three: the bytes do not decode, the writer fails, or memory
-- runs out.
use Rattle.std.proofs.lemmas.Result.{err_from_is_err_and}
use Rattle.sourcemap.specs.AnyMap.{map_tree}
use Rattle.sourcemap_bench.proofs.WrittenLemmas.{no_map, text_written, text_unwritten}
use Rattle.sourcemap_bench.proofs.written.write_map.Goals as goal

pub returns-in_err-map-clause-error : goal.returns-in_err-map-clause-error
returns-in_err-map-clause-error g c =
    let p = err_from_is_err_and c.from_residual.result c.from_residual.ensures.1 in
    rw (p.1, p.2) (no_map c.args.bytes.now _ c.in_err-map.ensures.answer)

pub returns-clause-written : goal.returns-clause-written
returns-clause-written g c =
    text_written c.args.bytes.now (map_tree c.in_ok-map.map) c.encode_to.result (g.W.Write.contents c.args.output.now)
    (g.W.Write.contents c.encode_to.new.writer) c.in_ok-map.ensures.answer c.encode_to.ensures.written

pub returns-clause-error : goal.returns-clause-error
returns-clause-error g c =
    text_unwritten c.args.bytes.now (map_tree c.in_ok-map.map) c.encode_to.result c.encode_to.ensures.error
