use Rattle.std.proofs.Common.{ap, ◌∙◌, option_map}
use Rattle.sourcemap_tokens.specs.Tokens.{closest_token}
use Rattle.sourcemap_line_index.proofs.TokenListLemmas.{closest_from_index}
use Rattle.sourcemap_line_index.proofs.token_list.TokenList.closest_steps.Goals as goal

pub returns-clause-answer : goal.returns-clause-answer
returns-clause-answer c =
    let tokens = c.as_slice-tokens.ensures.value in
    let index = c.with_token.ensures.kept ∙ c.closest_by_samples-index.ensures.answer
    ∙ ap
    (λ p. option_map (λ found. found.0) (closest_token c.as_slice-tokens.result.now p)) c.new-probe.ensures.position in
    closest_from_index c.as_slice-tokens.result.now (
      c.args.line,
      c.args.col,
    ) c.with_token.result index c.with_token.ensures.own_index
    ∙ ap (λ ts. closest_token ts (c.args.line, c.args.col)) (tokens ∙ c.self.view_is)
