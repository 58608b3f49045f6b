use Rattle.std.proofs.Common.{◌∙◌, sym, ap, arith, chars, List, ℕ}
use Rattle.sourcemap_source_views.specs.Identifiers.{identifier_at_start, is_text, unless_empty}
use Rattle.sourcemap_source_views.proofs.RunsLemmas.{identifier_far, token_of_word}
use Rattle.sourcemap_source_views.proofs.walk.Cursor.is_named.Goals as goal

pub returns-then-from-self : goal.returns-then-from-self
returns-then-from-self c =
    let cursor = c.args.self.now in
    let col = c.from.ensures in
    let far = c.if-from-self.true in
    c.starts_with_identifier.ensures
    ∙ ap
    (λ (t : List ℕ). is_text c.args.name.now (unless_empty (identifier_at_start (chars t)))) c.range_from.ensures.value
    ∙ ap (is_text c.args.name.now) (sym (token_of_word cursor.line.now cursor.at.offset cursor.word cursor.first)
    ∙ identifier_far cursor.line.now c.args.col cursor.at.offset cursor.at.units (omega (arith, col, far)))
