-- A vector holds what is written to it.
use Rattle.std.proofs.Common.{ℕ, List, ◌++◌, ap, sym, subst, ◌∙◌}
use Rattle.sourcemap_map_regular.specs.Encode.{RecordAnswer}
use Rattle.sourcemap_map_regular.specs.Write.{IsEncoded}
use Rattle.sourcemap_map_regular.proofs.encode.SourceMapEncodable.compact_text.Goals as goal

pub returns-in-Ok-clause-text : goal.returns-in-Ok-clause-text
returns-in-Ok-clause-text c =
    let written = c.in-Ok.ensures.written in
    subst (λ (text : List ℕ). IsEncoded (RecordAnswer c.args.self.now) text)
    (sym (written.2 ∙ ap (λ (l : List ℕ). l ++ written.0) c.new-text.ensures.items)) written.1
