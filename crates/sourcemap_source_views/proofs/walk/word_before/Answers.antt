use Rattle.std.proofs.Common.{◌∙◌, ◌≡◌, sym, ap, subst, length, IsCharBoundary, drop, ℕ, List}
use Rattle.std.specs.Str.{trim_start}
use Rattle.sourcemap_source_views.proofs.RunsLemmas.{word_kept, word_found}
use Rattle.sourcemap_source_views.proofs.walk.word_before.Goals as goal

pub returns-then-blank-gap : goal.returns-then-blank-gap
returns-then-blank-gap c =
    let blank = c.blank_length-blank.result in
    let is = subst (λ (gap : List ℕ). drop blank gap
    ≡ trim_start gap) c.range-gap.ensures.value c.blank_length-blank.ensures.rest in
    word_kept c.args.line.now c.args.offset c.args.next c.args.word blank c.utf8.line c.requires.order c.requires.offset
    c.requires.next is (c.if-blank-gap.true ∙ ap length c.range-gap.ensures.value) c.requires.word

pub returns-else-blank-gap : goal.returns-else-blank-gap
returns-else-blank-gap c =
    let blank = c.blank_length-blank.result in
    let is = subst (λ (gap : List ℕ). drop blank gap
    ≡ trim_start gap) c.range-gap.ensures.value c.blank_length-blank.ensures.rest in
    let inside = subst (λ (gap : List ℕ).
    IsCharBoundary gap blank) c.range-gap.ensures.value c.blank_length-blank.ensures.boundary in
    word_found c.args.line.now c.args.offset c.args.next blank c.utf8.line c.requires.order c.requires.offset
    c.requires.next is (λ e. c.if-blank-gap.false (e ∙ sym (ap length c.range-gap.ensures.value))) inside
