use Rattle.std.proofs.Common.{◌≡◌, [], ◌++◌, ◌∷◌, length, map, ap, ◌∙◌, arith}
use Rattle.std.proofs.lemmas.List.{length-map, map_push}
use Rattle.sourcemap_interning.specs.Interner.{id_of}
use Rattle.sourcemap_interning.proofs.InternerLemmas.{id_of-last}
use Rattle.sourcemap_interning.proofs.text_index.TextIndex.append.Goals as goal

pub returns-clause-index : goal.returns-clause-index
returns-clause-index g c =
    let bytes = g.T.Text.bytes in
    let items = c.self.inside.texts.items in
    let texts = c.args.self.now in
    let view : map bytes items ≡ texts = c.self.view_is ∙ c.in_ok-grow.ensures in
    let pushed : map bytes c.push.new.self.items ≡ texts ++ bytes c.args.text ∷ [] =
    ap (map bytes) (c.in_ok-push.ensures.items ∙ ap (λ xs. xs ++ c.args.text ∷ []) c.in_ok-reserve.ensures.items)
    ∙ map_push bytes items c.args.text ∙ ap (λ us. us ++ bytes c.args.text ∷ []) view in
    let counted : length texts ≡ c.len-number.result = omega (
      arith,
      length-map items bytes,
      ap length view,
      c.len-number.ensures,
      c.in_ok-reserve.ensures.len,
      c.self.inside.texts.ok.0,
    ) in
    ap (id_of (bytes c.args.text)) pushed
    ∙ id_of-last texts (bytes c.args.text) c.len-number.result counted c.requires.new
