use Rattle.std.proofs.Common.{◌≡◌, ◌<◌, ◌∙◌, ap, arith, drop, take, subst, Some}
use Rattle.std.proofs.lemmas.List.{take_rest}
use Rattle.sourcemap_source_views.specs.Columns.{column_offset}
use Rattle.sourcemap_check_texts.proofs.ShiftLemmas.{word_found}
use Rattle.sourcemap_check_texts.proofs.shifts.word_at.Goals as goal

pub returns : goal.returns
returns c =
    let near : c.args.column < 4096 = omega arith in
    let offset = c.in_ok-at.at.offset in
    let at : Some offset ≡ column_offset c.args.line.now c.args.column =
    subst (λ n. Some offset ≡ column_offset c.args.line.now n) c.from.ensures c.in_ok-at.ensures.value in
    word_found c.args.line.now c.first_bytes-rest.result.now c.args.column offset c.word_length-length.result near at
    (c.first_bytes-rest.ensures ∙ ap (take 64) (take_rest c.as_bytes.result.now offset)
    ∙ ap (λ t. take 64 (drop offset t)) c.as_bytes.ensures.value)
    c.word_length-length.ensures
