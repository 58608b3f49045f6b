use Rattle.std.proofs.Common.{◌≡◌, ◌+◌, ◌/◌, [], ◌∷◌, ◌++◌, sym, ap, ◌∙◌}
use Rattle.sourcemap_json_write.proofs.QuoteLemmas.{escape_by_code, then}
use Rattle.sourcemap_json_write.proofs.quoting.put_code.Goals as goal

pub returns : goal.returns
returns c =
    let byte = c.args.byte in
    let old = c.args.out.now.items in
    let digit = c.hexadecimal.result in
    let front = c.extend_from_slice.new.self.items in
    let middle = c.push.new.self.items in
    let back = c.push-2.new.self.items in
    let opened : front ≡ old ++ 92 ∷ 117 ∷ 48 ∷ 48 ∷ [] = c.in_ok-extend_from_slice.ensures.items in
    let high : middle ≡ front ++ (48 + byte / 16) ∷ [] = c.in_ok-push.ensures.items in
    let low : back ≡ middle ++ digit ∷ [] = c.in_ok-push-2.ensures.items in
    let first = then old front middle (92 ∷ 117 ∷ 48 ∷ 48 ∷ []) ((48 + byte / 16) ∷ []) opened high in
    let whole = then old middle back (92 ∷ 117 ∷ 48 ∷ 48 ∷ (48 + byte / 16) ∷ []) (digit ∷ []) first low in
    whole ∙ ap (λ d. old ++ 92 ∷ 117 ∷ 48 ∷ 48 ∷ (48 + byte / 16) ∷ d ∷ []) c.hexadecimal.ensures
    ∙ ap (λ l. old ++ l) (sym (escape_by_code byte c.requires.control c.requires.nameless))
