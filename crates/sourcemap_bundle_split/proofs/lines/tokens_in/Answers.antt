use Rattle.std.proofs.Common.{◌≡◌, ◌≤◌, ◌∙◌, ℕ, sym, ap, subst, filter, not, All, inl}
use Rattle.std.proofs.lemmas.List.Elements.{All-take}
use Rattle.sourcemap_tokens.specs.declared.tokens.RawToken.{RawToken}
use Rattle.sourcemap_bundle_split.proofs.LinesLemmas.{filter-both, later-from, stands_before}
use Rattle.sourcemap_bundle_split.proofs.lines.tokens_in.Goals as goal

pub returns-clause-tokens : goal.returns-clause-tokens
returns-clause-tokens c = λ e same.
    let start : ℕ × ℕ = (c.args.line, 0) in
    let tokens = c.args.tokens.now in
    let later : c.split_at.result.1.now ≡ filter (λ t. not (stands_before start t)) tokens =
    c.split_at.ensures.back ∙ c.first_at.ensures.from start (inl (ap (λ l. (l, 0)) c.from.ensures)) in
    c.split_at-2.ensures.front ∙ c.first_at-2.ensures.before e same ∙ ap (filter (stands_before e)) later
    ∙ filter-both (λ t. not (stands_before start t)) (stands_before e) tokens

pub returns-clause-later : goal.returns-clause-later
returns-clause-later c =
    let start : ℕ × ℕ = (c.args.line, 0) in
    let tokens = c.args.tokens.now in
    let later : c.split_at.result.1.now ≡ filter (λ t. not (stands_before start t)) tokens =
    c.split_at.ensures.back ∙ c.first_at.ensures.from start (inl (ap (λ l. (l, 0)) c.from.ensures)) in
    subst (All (λ (t : RawToken). c.args.line ≤ t.dst_line)) (sym c.split_at-2.ensures.front)
    (All-take (λ (t : RawToken). c.args.line ≤ t.dst_line) c.first_at-2.result c.split_at.result.1.now
    (subst (All (λ (t : RawToken). c.args.line ≤ t.dst_line)) (sym later) (later-from c.args.line tokens)))
