use Rattle.std.proofs.lemmas.Result.{err_from_is_err_and}
use Rattle.sourcemap_index.proofs.DecodeIndexLemmas.{still_due}
use Rattle.sourcemap_index.proofs.decode_index.index_of.Goals as goal

pub returns-in_err-file : goal.returns-in_err-file
returns-in_err-file c =
    let p = err_from_is_err_and c.from_residual.result c.from_residual.ensures.1 in
    rw (p.1, p.2) (still_due _ _ _ c.in_err-file.ensures)
