use Rattle.std.proofs.Common.{◌∙◌, sym, ap, subst, length, IsCharBoundary, ℕ, List, chars}
use Rattle.sourcemap_source_views.specs.Identifiers.{is_part}
use Rattle.sourcemap_source_views.proofs.IdentifiersLemmas.{passing_bytes}
use Rattle.sourcemap_source_views.proofs.RunsLemmas.{end_kept, end_found}
use Rattle.sourcemap_source_views.proofs.walk.end_before.Goals as goal

pub returns-then-length-gap : goal.returns-then-length-gap
returns-then-length-gap c =
    let is = c.parts_length-length.ensures.value
    ∙ ap (λ (gap : List ℕ). passing_bytes is_part (chars gap)) c.range-gap.ensures.value in
    end_kept c.args.line.now c.args.word c.args.next
    c.args.end c.parts_length-length.result c.utf8.line c.requires.order c.requires.word c.requires.next is
    (c.if-length-gap.true ∙ ap length c.range-gap.ensures.value) c.requires.end

pub returns-else-length-gap : goal.returns-else-length-gap
returns-else-length-gap c =
    let len = c.parts_length-length.result in
    let is = c.parts_length-length.ensures.value
    ∙ ap (λ (gap : List ℕ). passing_bytes is_part (chars gap)) c.range-gap.ensures.value in
    let inside =
    subst (λ (gap : List ℕ). IsCharBoundary gap len) c.range-gap.ensures.value c.parts_length-length.ensures.boundary in
    end_found c.args.line.now c.args.word c.args.next len c.utf8.line c.requires.order c.requires.word c.requires.next
    is (λ e. c.if-length-gap.false (e ∙ sym (ap length c.range-gap.ensures.value))) inside
