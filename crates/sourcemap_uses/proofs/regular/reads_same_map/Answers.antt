-- If the bytes of the reader are those of the slice, `from_reader` can return only the map of the slice.
use Rattle.std.proofs.Common.{inl, inr}
use Rattle.std.proofs.lemmas.Result.{err_from_is_err_and}
use Rattle.sourcemap_uses.proofs.RegularLemmas.{same_map}
use Rattle.sourcemap_uses.proofs.regular.reads_same_map.Goals as goal

pub returns-in_err-map-clause-error : goal.returns-in_err-map-clause-error
returns-in_err-map-clause-error g c =
    let p = err_from_is_err_and c.from_residual.result c.from_residual.ensures.1 in
    rw (p.1, p.2) (inl c.in_err-map.ensures.answer)

pub returns-in_err-read-clause-error : goal.returns-in_err-read-clause-error
returns-in_err-read-clause-error g c =
    let p = err_from_is_err_and c.from_residual-in_err-read.result c.from_residual-in_err-read.ensures.1 in
    rw (p.1, p.2) (inr c.in_err-read.ensures.answer)

pub returns-clause-same : goal.returns-clause-same
returns-clause-same g c = λ same.
    same_map (g.R.Read.remaining c.args.reader) c.args.bytes.now c.in_ok-map.map c.in_ok-read.read c.eq.result same
    c.in_ok-map.ensures.answer c.in_ok-read.ensures.only c.eq.ensures.same
