use Rattle.std.proofs.Common.{◌∙◌, ◌++◌, List, ℕ, None, ap, get_or}
use Rattle.sourcemap_compiled_write.specs.TextValues.{text_value}
use Rattle.sourcemap_compiled_write.specs.Texts.{text_bytes}
use Rattle.sourcemap_compiled_write.proofs.TextsLemmas.{texts_bytes_step}
use Rattle.sourcemap_compiled_write.proofs.texts.push_texts.Goals as goal

pub loop-text-preserved : goal.loop-text-preserved
loop-text-preserved c =
    let texts = c.args.texts.now in
    let i = c.loop-text.text-index in
    c.in_ok-push_text.ensures
    ∙ ap (λ (l : List ℕ). l ++ text_bytes (text_value (get_or texts i None))) c.loop-text.invariant
    ∙ texts_bytes_step c.args.out.now.items texts i None c.loop-text-test.true
