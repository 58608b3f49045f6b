use Rattle.std.proofs.Common.{◌≡◌, ℕ, ◌-◌, List, [], ◌∷◌, ◌++◌, Option, replicate, option_copied, string_bytes, take}
use Rattle.std.proofs.Common.{false, cond, ap, sym, ◌∙◌, arith, append_assoc}
use Rattle.std.proofs.lemmas.List.{take_more_set}
use Rattle.sourcemap_tokens.specs.declared.tokens.RawToken.{RawToken}
use Rattle.sourcemap_mappings.specs.Segment.{comma, semicolon}
use Rattle.sourcemap_mappings.specs.WriteSteps.{follows, gap}
use Rattle.sourcemap_mappings.proofs.write.put_gap.Goals as goal

-- if `follows previous t` is false, and the line of `t` is `line + 1`, then the gap before `t` is one `;`
one_end : (previous : Option RawToken) (line : ℕ) (t : RawToken) → follows previous t ≡ false → t.dst_line - line ≡ 1
    → gap previous line t ≡ semicolon ∷ []
one_end previous line t off one = ap (λ b. cond b (comma ∷ []) (replicate (t.dst_line - line) semicolon)) off
    ∙ ap (λ (n : ℕ). replicate n semicolon) one

tail : (text gathered now between : List ℕ) → now ≡ gathered ++ semicolon ∷ [] → between ≡ semicolon ∷ []
    → text ++ now ≡ (text ++ gathered) ++ between
tail text gathered now between is one =
    ap (λ xs. text ++ xs) (is ∙ ap (λ xs. gathered ++ xs) (sym one)) ∙ sym (append_assoc text gathered between)

pub returns-then-from-clause-text : goal.returns-then-from-clause-text
returns-then-from-clause-text c =
    let token = c.args.token.now in
    let previous = option_copied c.args.previous in
    let off : follows previous token ≡ false = cc in
    let one : token.dst_line - c.args.line ≡ 1 = omega (arith, c.from.ensures, c.from-2.ensures) in
    tail (string_bytes c.args.text.now) (take c.args.at c.args.buffer.now) _ (gap previous c.args.line token)
    (take_more_set c.args.buffer.now c.args.at semicolon (omega arith)) (one_end previous c.args.line token off one)
