use Rattle.std.proofs.Common.{◌≡◌, ◌++◌, ◌-◌, take, drop, length, length-drop, true, refl, sym, ap, ◌∙◌, arith}
use Rattle.std.proofs.lemmas.Bool.Decides.{Decides-eqb}
use Rattle.std.proofs.lemmas.List.{drop-drop, take_all}
use Rattle.std.proofs.lemmas.Slice.Eq.{starts_is}
use Rattle.sourcemap_json_read.proofs.words.word_end.Goals as goal

pub returns-then-is_word_end : goal.returns-then-is_word_end
returns-then-is_word_end c =
    let bytes = c.args.text.now in
    let from = c.args.from in
    let word = c.args.word.now in
    let whole : take (length bytes - from) (drop from bytes) ≡ drop from bytes =
    take_all _ (drop from bytes) (omega (arith, length-drop from bytes)) in
    let found = rw whole at c.if-not-starts_with.ensures.value in
    let split : drop from bytes ≡ word ++ drop (length word) (drop from bytes) =
    (starts_is Decides-eqb (drop from bytes) word true found).0 refl in
    (split ∙ ap (λ t. word ++ t) (drop-drop (length word) from bytes), sym c.if-is_word_end.ensures)
