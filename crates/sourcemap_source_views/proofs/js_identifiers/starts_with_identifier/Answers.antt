use Rattle.std.proofs.Common.{◌∙◌, ◌++◌, not, sym, ap}
use Rattle.sourcemap_source_views.proofs.RunsLemmas.{named_if, named_not, empty_from_length, some_from_length}
use Rattle.sourcemap_source_views.proofs.js_identifiers.starts_with_identifier.Goals as goal

pub returns-then-is_empty : goal.returns-then-is_empty
returns-then-is_empty c = named_not c.args.text.now c.args.name.now c.utf8.text (λ rest e.
    empty_from_length c.args.name.now (sym c.is_empty.ensures ∙ c.if-is_empty.true))

pub returns-in-Some : goal.returns-in-Some
returns-in-Some c =
    let cut = c.in-Some.ensures.cases in
    let some = some_from_length c.args.name.now (sym c.is_empty.ensures ∙ c.if-is_empty.false) in
    ap not c.starts_with_part.ensures
    ∙ named_if c.args.text.now c.in-Some.rest.now c.args.name.now c.utf8.name c.requires some
    (cut.1.1 ∙ ap (λ t. c.args.name.now ++ t) (sym cut.2))

pub returns-in-None : goal.returns-in-None
returns-in-None c =
    named_not c.args.text.now c.args.name.now c.utf8.text (λ rest e. absurd (c.in-None.ensures.cases rest e))
