use Rattle.std.proofs.Common.{◌≡◌, ◌≢◌, [], ◌∷◌, ◌++◌, sym, ap, ◌∙◌, arith}
use Rattle.json.specs.Print.{escape_letter}
use Rattle.sourcemap_json_write.proofs.QuoteLemmas.{escape_by_letter, then}
use Rattle.sourcemap_json_write.proofs.quoting.put_escape.Goals as goal

pub returns : goal.returns
returns c =
    let old = c.args.out.now.items in
    let letter = c.letter-letter.result in
    let some : escape_letter c.args.byte ≢ 0 = λ none. grind arith in
    let middle = c.push.new.self.items in
    let slash : middle ≡ old ++ 92 ∷ [] = c.in_ok-push.ensures.items in
    let named : c.push-2.new.self.items ≡ middle ++ letter ∷ [] = c.in_ok-push-2.ensures.items in
    then old middle _ (92 ∷ []) (letter ∷ []) slash named
    ∙ ap (λ l. old ++ 92 ∷ l ∷ []) c.letter-letter.ensures
    ∙ ap (λ l. old ++ l) (sym (escape_by_letter c.args.byte some))
