use Rattle.std.proofs.Common.{◌∙◌, cond, sym, ap, chars, length, take_while, encode_utf8_all, []}
use Rattle.std.proofs.lemmas.Str.{IsCharBoundary-start}
use Rattle.sourcemap_source_views.specs.Identifiers.{is_part}
use Rattle.sourcemap_source_views.proofs.RunsLemmas.{identifier-by-parts}
use Rattle.sourcemap_source_views.proofs.js_identifiers.identifier_length.Goals as goal

pub returns-then-starts_with_start-clause-value : goal.returns-then-starts_with_start-clause-value
returns-then-starts_with_start-clause-value c =
    c.parts_length.ensures.value
    ∙ sym (ap (λ cs. length (encode_utf8_all cs)) (identifier-by-parts (chars c.args.text.now) ∙ ap (λ b. cond b
    (take_while is_part (chars c.args.text.now)) []) (sym c.starts_with_start.ensures ∙ c.if-starts_with_start.true)))

pub returns-else-starts_with_start-clause-value : goal.returns-else-starts_with_start-clause-value
returns-else-starts_with_start-clause-value c =
    sym (ap (λ cs. length (encode_utf8_all cs)) (identifier-by-parts (chars c.args.text.now) ∙ ap (λ b. cond b
    (take_while is_part (chars c.args.text.now)) []) (sym c.starts_with_start.ensures ∙ c.if-starts_with_start.false)))

pub returns-else-starts_with_start-clause-boundary : goal.returns-else-starts_with_start-clause-boundary
returns-else-starts_with_start-clause-boundary c = IsCharBoundary-start c.args.text.now c.utf8.text
