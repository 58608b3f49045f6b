use Rattle.std.proofs.Common.{sym, ◌-◌, ◌∙◌, arith}
use Rattle.std.proofs.lemmas.List.{get_or_default}
use Rattle.sourcemap_tokens.specs.Tokens.{destination, position_cmp}
use Rattle.sourcemap_tokens.proofs.TokensLemmas.{position_cmp_total}
use Rattle.sourcemap_tokens.proofs.SearchLemmas.{IsApart, apart_from_read, apart_at_end, bracket_closed, closest-hit}
use Rattle.sourcemap_tokens.proofs.SearchLemmas.{closest-miss, closest-none}
use Rattle.sourcemap_tokens.proofs.tokens.closest_token.Goals as goal
use Rattle.sourcemap_tokens.proofs.tokens.closest_token.Goals.{then-low-tokens+else-is_at, else-low-tokens}

pub returns-then-is_at-clause-answer : goal.returns-then-is_at-clause-answer
returns-then-is_at-clause-answer c =
    let bracket = bracket_closed destination position_cmp c.args.tokens.now (
      c.args.line,
      c.args.col,
    ) c.loop-low.low c.loop-low.high c.loop-low.invariant.bracket (omega arith) in
    closest-hit position_cmp_total destination c.args.tokens.now (
      c.args.line,
      c.args.col,
    ) c.loop-low.low c.requires bracket _ (omega arith)
    (get_or_default c.args.tokens.now c.loop-low.low _ _ (omega arith)) (sym c.is_at.ensures ∙ c.if-is_at.true)

pub returns-then-low-eq0-clause-answer : goal.returns-then-low-eq0-clause-answer
returns-then-low-eq0-clause-answer c =
    let bracket = bracket_closed destination position_cmp c.args.tokens.now (
      c.args.line,
      c.args.col,
    ) c.loop-low.low c.loop-low.high c.loop-low.invariant.bracket (omega arith) in
    let apart : IsApart destination position_cmp c.args.tokens.now (c.args.line, c.args.col) c.loop-low.low =
    elim c.if-low-tokens.branch [
      | then-low-tokens+else-is_at w ↦
          apart_from_read destination position_cmp c.args.tokens.now (c.args.line, c.args.col) c.loop-low.low _
          (get_or_default c.args.tokens.now c.loop-low.low _ _ (omega arith)) (sym w.is_at.ensures ∙ w.if-is_at.false)
      | else-low-tokens w ↦
          apart_at_end destination position_cmp c.args.tokens.now (c.args.line, c.args.col) c.loop-low.low (omega arith)
    ] in
    closest-none position_cmp_total destination c.args.tokens.now (
      c.args.line,
      c.args.col,
    ) c.loop-low.low c.requires bracket (omega arith) apart

pub returns-clause-answer : goal.returns-clause-answer
returns-clause-answer c =
    let bracket = bracket_closed destination position_cmp c.args.tokens.now (
      c.args.line,
      c.args.col,
    ) c.loop-low.low c.loop-low.high c.loop-low.invariant.bracket (omega arith) in
    let apart : IsApart destination position_cmp c.args.tokens.now (c.args.line, c.args.col) c.loop-low.low =
    elim c.if-low-tokens.branch [
      | then-low-tokens+else-is_at w ↦
          apart_from_read destination position_cmp c.args.tokens.now (c.args.line, c.args.col) c.loop-low.low _
          (get_or_default c.args.tokens.now c.loop-low.low _ _ (omega arith)) (sym w.is_at.ensures ∙ w.if-is_at.false)
      | else-low-tokens w ↦
          apart_at_end destination position_cmp c.args.tokens.now (c.args.line, c.args.col) c.loop-low.low (omega arith)
    ] in
    closest-miss position_cmp_total destination c.args.tokens.now (
      c.args.line,
      c.args.col,
    ) c.loop-low.low c.requires bracket _ (omega arith) (omega arith)
    (get_or_default c.args.tokens.now (c.loop-low.low - 1) _ _ (omega arith)) apart
