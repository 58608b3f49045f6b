-- The flat map is well-formed, so its bytes read back as it.
use Rattle.std.proofs.Common.{◌≡◌, refl, subst, sym, Err, Ok, string_bytes}
use Rattle.std.proofs.lemmas.Result.{IfOk-weaker, err_from_is_err_and}
use Rattle.sourcemap.specs.AnyMap.{index_value}
use Rattle.sourcemap.specs.Decoder.{BytesDecode}
use Rattle.sourcemap.specs.Due.{Gives-given}
use Rattle.sourcemap.specs.Encoder.{ReadsBack}
use Rattle.sourcemap.specs.Flat.{FlatAnswer}
use Rattle.sourcemap.specs.TreeEncoder.{Restores}
use Rattle.sourcemap.specs.Trees.{index_tree, leaf, meaning, regular}
use Rattle.sourcemap_trace.specs.Trace.{trace_of}
use Rattle.sourcemap_uses.proofs.BuildingLemmas.{reads_back}
use Rattle.sourcemap_uses.proofs.RefusalLemmas.{never_refused, unwritten}
use Rattle.sourcemap_uses.specs.Tracing.{IsFlatTrace}
use Rattle.sourcemap_uses.proofs.tracing.trace_flat.Goals as goal

pub returns-clause-text : goal.returns-clause-text
returns-clause-text c = λ well.
    let t = index_tree (index_value c.args.index.now) in
    let m = c.in_ok-flat.flat in
    let text = c.in_ok-text.text.items in
    let due = trace_of (meaning (leaf (regular m))) c.args.positions.now in
    let back = reads_back m m text refl (c.regular_maps_are_of_a_kind.ensures.bytes text)
    (c.written_maps_read_back.ensures m text c.in_ok-text.ensures.text (c.in_ok-flat.ensures.well_formed well)) in
    let whole = subst (λ bytes. ReadsBack (BytesDecode bytes) (Restores (leaf (regular m))))
    (sym c.as_slice.ensures.value) back in
    IfOk-weaker c.trace_bytes.result (λ text. string_bytes text ≡ due)
    (λ text. IsFlatTrace t c.args.positions.now (string_bytes text))
    (λ text is. record {
      map = m;
      flat_is = c.in_ok-flat.ensures.answer;
      text_is = is;
      alike = λ orderly line. c.flat_maps_answer_alike.ensures t m line (c.in_ok-flat.ensures.meaning orderly);
    })
    (Gives-given string_bytes due c.trace_bytes.result (c.trace_bytes.ensures (leaf (regular m)) whole))

pub returns-clause-error : goal.returns-clause-error
returns-clause-error c = λ well.
    let m = c.in_ok-flat.flat in
    let text = c.in_ok-text.text.items in
    let due = trace_of (meaning (leaf (regular m))) c.args.positions.now in
    let back = reads_back m m text refl (c.regular_maps_are_of_a_kind.ensures.bytes text)
    (c.written_maps_read_back.ensures m text c.in_ok-text.ensures.text (c.in_ok-flat.ensures.well_formed well)) in
    let whole = subst (λ bytes. ReadsBack (BytesDecode bytes) (Restores (leaf (regular m))))
    (sym c.as_slice.ensures.value) back in
    never_refused string_bytes due c.trace_bytes.result
    (λ e. FlatAnswer (index_tree (index_value c.args.index.now)) (Err e))
    (c.trace_bytes.ensures (leaf (regular m)) whole)

pub returns-in_err-flat-clause-error : goal.returns-in_err-flat-clause-error
returns-in_err-flat-clause-error c = λ well.
    let p = err_from_is_err_and c.from_residual.result c.from_residual.ensures.1 in
    rw (p.1, p.2) c.in_err-flat.ensures.answer

pub returns-in_err-text-clause-error : goal.returns-in_err-text-clause-error
returns-in_err-text-clause-error c = λ well.
    let e = c.in_err-text.field-0.0 in
    let p = err_from_is_err_and c.from_residual-in_err-text.result c.from_residual-in_err-text.ensures.1 in
    rw (p.1, p.2) (unwritten c.in_ok-flat.flat e
    (FlatAnswer (index_tree (index_value c.args.index.now)) (Err e)) c.in_err-text.ensures.error)
