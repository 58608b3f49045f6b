use Rattle.std.proofs.Common.{◌≡◌, subst, IsCharBoundary, drop, ℕ, List}
use Rattle.std.specs.Str.{trim_start}
use Rattle.sourcemap_source_views.proofs.RunsLemmas.{word_at}
use Rattle.sourcemap_source_views.proofs.walk.word_from.Goals as goal

pub returns : goal.returns
returns c =
    let blank = c.blank_length.result in
    let is = subst (λ (rest : List ℕ). drop blank rest
    ≡ trim_start rest) c.range_from.ensures.value c.blank_length.ensures.rest in
    let inside =
    subst (λ (rest : List ℕ). IsCharBoundary rest blank) c.range_from.ensures.value c.blank_length.ensures.boundary in
    word_at c.args.line.now c.args.offset blank c.utf8.line c.requires inside is
