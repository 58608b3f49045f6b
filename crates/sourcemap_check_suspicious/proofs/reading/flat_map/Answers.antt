use Rattle.std.proofs.lemmas.Result.{err_from_is_err_and}
use Rattle.sourcemap_index.specs.Family.{index_value}
use Rattle.sourcemap_check_suspicious.proofs.ReadingLemmas.{flat_given, no_index}
use Rattle.sourcemap_check_suspicious.proofs.reading.flat_map.Goals as goal

pub returns : goal.returns
returns c =
    λ held holds.
    flat_given c.args.bytes.now held (index_value c.in_ok-index.index) c.flatten.result holds
    c.in_ok-index.ensures.answer c.flatten.ensures.answer

pub returns-in_err-index : goal.returns-in_err-index
returns-in_err-index c =
    λ held holds.
    let p = err_from_is_err_and c.from_residual.result c.from_residual.ensures.1 in
    rw (p.1, p.2) (no_index c.args.bytes.now held _ holds c.in_err-index.ensures.answer)
